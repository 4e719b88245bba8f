use Rattle.std.proofs.Common.{◌≡◌, ◌<◌, length, map, Option, Some, None, ◌∙◌, ap, subst, refl}
use Rattle.std.specs.Prelude.{slice_get}
use Rattle.std.specs.Option.{option_copied}
use Rattle.std.proofs.lemmas.Option.{slice_get_read, slice_get_within}
use Rattle.odb_model.specs.declared.entry.Entry.{Entry}
use Rattle.odb_bank.specs.Additions.{record_of, last_key}
use Rattle.odb_bank.specs.History.{Key}
use Rattle.odb_bank.specs.LeastAbove.{IsLeast}
use Rattle.odb_bank.proofs.LastWrites.{ordered_at, gathered, gathering_with}
use Rattle.odb_bank.proofs.latest.latest.Goals as goal

pub returns-in-None-clause-all : goal.returns-in-None-clause-all
returns-in-None-clause-all c =
    let entries = c.args.entries.now in
    let found = c.keys.found.items in
    let last : option_copied c.last_key.result ≡ last_key found = c.last_key.ensures ∙ ap last_key c.as_slice.ensures.value in
    let none : IsLeast c.args.bank (last_key found) entries (length entries) None = subst (λ (o : Option Key). IsLeast c.args.bank o entries (length entries) None) last c.in-None.ensures in
    gathered c.args.bank entries (ordered_at entries c.requires) (last_key found) (map record_of found) c.keys.invariant.gathers none

pub copy_of-requires : goal.copy_of-requires
copy_of-requires c =
    let entries = c.args.entries.now in
    let best = c.in-Some.ensures in
    let at = best.2 in
    let f = c.index-entries-place.result in
    let there : slice_get entries c.in-Some.place ≡ Some f = slice_get_read entries (length entries) c.in-Some.place f refl at.below c.index-entries-place.is in
    let its : best.0 ≡ f = let one = at.is_entry in cc (one, there) in
    subst (λ (x : Entry). c.in-Some.write < length x.writes) its (slice_get_within best.0.writes c.in-Some.write best.1 at.is_write)

pub keys-preserved : goal.keys-preserved
keys-preserved c =
    let entries = c.args.entries.now in
    let found = c.keys.found.items in
    let last : option_copied c.last_key.result ≡ last_key found = c.last_key.ensures ∙ ap last_key c.as_slice.ensures.value in
    let best : IsLeast c.args.bank (last_key found) entries (length entries) (Some (c.in-Some.place, c.in-Some.write)) =
    subst (λ (o : Option Key). IsLeast c.args.bank o entries (length entries) (Some (c.in-Some.place, c.in-Some.write))) last c.in-Some.ensures in
    let at = best.2 in
    let f = c.index-entries-place.result in
    let there : slice_get entries c.in-Some.place ≡ Some f = slice_get_read entries (length entries) c.in-Some.place f refl at.below c.index-entries-place.is in
    let more = gathering_with c.args.bank entries c.requires found (c.in-Some.place, c.in-Some.write) f there best c.in_ok-copy_of-in-Some.field-0 c.in_ok-copy_of-in-Some.ensures c.keys.invariant.gathers c.keys.invariant.narrow
    c.push.new.self.items c.in_ok-push-in-Some.ensures.items in
    record { gathers = more.0; narrow = more.1 }
