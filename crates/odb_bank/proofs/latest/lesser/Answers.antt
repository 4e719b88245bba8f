use Rattle.std.proofs.Common.{◌≡◌, ◌+◌, ◌<◌, List, length, Some, sym, ◌∙◌, ap, subst, refl, arith}
use Rattle.std.specs.Prelude.{slice_get}
use Rattle.std.specs.List.Sorted.{IsStrictlySortedBy}
use Rattle.std.specs.Option.{option_copied}
use Rattle.std.specs.Ordering.{is_gt}
use Rattle.std.proofs.lemmas.List.{get_or_default}
use Rattle.std.proofs.lemmas.Option.{slice_get_read, slice_get_within}
use Rattle.odb_model.specs.declared.entry.Entry.{Entry}
use Rattle.odb_model.specs.declared.write.Write.{Write}
use Rattle.odb_model.specs.State.{table_key_cmp, table_key_of}
use Rattle.odb_model.specs.Transaction.{table_keys}
use Rattle.odb_bank.specs.LeastAbove.{IsFirstAbove, IsLeast}
use Rattle.odb_bank.proofs.LastWrites.{ordered_at, least_first, least_keeps, least_takes}
use Rattle.odb_bank.proofs.latest.lesser.Goals as goal

pub returns-in_default-least : goal.returns-in_default-least
returns-in_default-least c =
    let entries = c.args.entries.now in
    let above = option_copied c.args.above in
    let e = c.index-entries-i.result in
    let here : slice_get entries c.args.i ≡ Some e = slice_get_read entries (length entries) c.args.i e refl c.requires.inside c.index-entries-i.is in
    let first : IsFirstAbove c.args.bank above e.writes (length e.writes) (Some c.in-Some.place) =
    subst (λ (ws : List Write). IsFirstAbove c.args.bank above ws (length ws) (Some c.in-Some.place)) (c.as_slice.ensures ∙ ap (λ (x : Entry). x.writes) (sym c.index-entries-i.is)) c.in-Some.ensures in
    let up : IsStrictlySortedBy table_key_cmp (table_keys e.writes) = ordered_at entries c.requires.storable c.args.i e here in
    least_first c.args.bank above entries c.args.i e here up c.in-Some.place first.0 first.1 first
    (subst (IsLeast c.args.bank above entries c.args.i) c.in_default-least.is c.requires.least)

pub offset_bounds-as_slice-place : goal.offset_bounds-as_slice-place
offset_bounds-as_slice-place c =
    let entries = c.args.entries.now in
    let above = option_copied c.args.above in
    let e = c.index-entries-i.result in
    let here : slice_get entries c.args.i ≡ Some e = slice_get_read entries (length entries) c.args.i e refl c.requires.inside c.index-entries-i.is in
    let first : IsFirstAbove c.args.bank above e.writes (length e.writes) (Some c.in-Some.place) =
    subst (λ (ws : List Write). IsFirstAbove c.args.bank above ws (length ws) (Some c.in-Some.place)) (c.as_slice.ensures ∙ ap (λ (x : Entry). x.writes) (sym c.index-entries-i.is)) c.in-Some.ensures in
    let again = c.index-entries-i-2.result in
    let same : again ≡ e = c.index-entries-i-2.is ∙ get_or_default entries c.args.i again e c.requires.inside ∙ sym c.index-entries-i.is in
    let these : c.as_slice-2.result.now ≡ e.writes = c.as_slice-2.ensures ∙ ap (λ (x : Entry). x.writes) (sym c.index-entries-i-2.is ∙ same) in
    let low : c.in-Some.place < length c.as_slice-2.result.now =
    subst (λ (ws : List Write). c.in-Some.place < length ws) (sym these) (slice_get_within e.writes c.in-Some.place first.0 first.1) in
    omega (arith, low)

pub bounds-as_slice-place : goal.bounds-as_slice-place
bounds-as_slice-place c =
    let entries = c.args.entries.now in
    let above = option_copied c.args.above in
    let e = c.index-entries-i.result in
    let here : slice_get entries c.args.i ≡ Some e = slice_get_read entries (length entries) c.args.i e refl c.requires.inside c.index-entries-i.is in
    let first : IsFirstAbove c.args.bank above e.writes (length e.writes) (Some c.in-Some.place) =
    subst (λ (ws : List Write). IsFirstAbove c.args.bank above ws (length ws) (Some c.in-Some.place)) (c.as_slice.ensures ∙ ap (λ (x : Entry). x.writes) (sym c.index-entries-i.is)) c.in-Some.ensures in
    let again = c.index-entries-i-2.result in
    let same : again ≡ e = c.index-entries-i-2.is ∙ get_or_default entries c.args.i again e c.requires.inside ∙ sym c.index-entries-i.is in
    let these : c.as_slice-2.result.now ≡ e.writes = c.as_slice-2.ensures ∙ ap (λ (x : Entry). x.writes) (sym c.index-entries-i-2.is ∙ same) in
    let low : c.in-Some.place < length c.as_slice-2.result.now =
    subst (λ (ws : List Write). c.in-Some.place < length ws) (sym these) (slice_get_within e.writes c.in-Some.place first.0 first.1) in
    low

pub offset_bounds-as_slice-write : goal.offset_bounds-as_slice-write
offset_bounds-as_slice-write c =
    let entries = c.args.entries.now in
    let above = option_copied c.args.above in
    let e = c.index-entries-i.result in
    let here : slice_get entries c.args.i ≡ Some e = slice_get_read entries (length entries) c.args.i e refl c.requires.inside c.index-entries-i.is in
    let first : IsFirstAbove c.args.bank above e.writes (length e.writes) (Some c.in-Some.place) =
    subst (λ (ws : List Write). IsFirstAbove c.args.bank above ws (length ws) (Some c.in-Some.place)) (c.as_slice.ensures ∙ ap (λ (x : Entry). x.writes) (sym c.index-entries-i.is)) c.in-Some.ensures in
    let best : IsLeast c.args.bank above entries c.args.i (Some (c.in-Some-least.entry, c.in-Some-least.write)) = subst (IsLeast c.args.bank above entries c.args.i) c.in-Some-least.is c.requires.least in
    let was = best.2 in
    let f = c.index-entries-entry.result in
    let there : slice_get entries c.in-Some-least.entry ≡ Some f = slice_get_read entries (length entries) c.in-Some-least.entry f refl (omega (arith, was.below, c.requires.inside)) c.index-entries-entry.is in
    let its : best.0 ≡ f = let one = was.is_entry in cc (one, there) in
    let inside : c.in-Some-least.write < length f.writes = subst (λ (x : Entry). c.in-Some-least.write < length x.writes) its (slice_get_within best.0.writes c.in-Some-least.write best.1 was.is_write) in
    let before_low : c.in-Some-least.write < length c.as_slice-3.result.now = subst (λ (ws : List Write). c.in-Some-least.write < length ws) (sym (c.as_slice-3.ensures ∙ ap (λ (x : Entry). x.writes) (sym c.index-entries-entry.is))) inside in
    omega (arith, before_low)

pub bounds-as_slice-write : goal.bounds-as_slice-write
bounds-as_slice-write c =
    let entries = c.args.entries.now in
    let above = option_copied c.args.above in
    let e = c.index-entries-i.result in
    let here : slice_get entries c.args.i ≡ Some e = slice_get_read entries (length entries) c.args.i e refl c.requires.inside c.index-entries-i.is in
    let first : IsFirstAbove c.args.bank above e.writes (length e.writes) (Some c.in-Some.place) =
    subst (λ (ws : List Write). IsFirstAbove c.args.bank above ws (length ws) (Some c.in-Some.place)) (c.as_slice.ensures ∙ ap (λ (x : Entry). x.writes) (sym c.index-entries-i.is)) c.in-Some.ensures in
    let best : IsLeast c.args.bank above entries c.args.i (Some (c.in-Some-least.entry, c.in-Some-least.write)) = subst (IsLeast c.args.bank above entries c.args.i) c.in-Some-least.is c.requires.least in
    let was = best.2 in
    let f = c.index-entries-entry.result in
    let there : slice_get entries c.in-Some-least.entry ≡ Some f = slice_get_read entries (length entries) c.in-Some-least.entry f refl (omega (arith, was.below, c.requires.inside)) c.index-entries-entry.is in
    let its : best.0 ≡ f = let one = was.is_entry in cc (one, there) in
    let inside : c.in-Some-least.write < length f.writes = subst (λ (x : Entry). c.in-Some-least.write < length x.writes) its (slice_get_within best.0.writes c.in-Some-least.write best.1 was.is_write) in
    let before_low : c.in-Some-least.write < length c.as_slice-3.result.now = subst (λ (ws : List Write). c.in-Some-least.write < length ws) (sym (c.as_slice-3.ensures ∙ ap (λ (x : Entry). x.writes) (sym c.index-entries-entry.is))) inside in
    before_low

pub returns-in-Greater : goal.returns-in-Greater
returns-in-Greater c =
    let entries = c.args.entries.now in
    let above = option_copied c.args.above in
    let e = c.index-entries-i.result in
    let here : slice_get entries c.args.i ≡ Some e = slice_get_read entries (length entries) c.args.i e refl c.requires.inside c.index-entries-i.is in
    let first : IsFirstAbove c.args.bank above e.writes (length e.writes) (Some c.in-Some.place) =
    subst (λ (ws : List Write). IsFirstAbove c.args.bank above ws (length ws) (Some c.in-Some.place)) (c.as_slice.ensures ∙ ap (λ (x : Entry). x.writes) (sym c.index-entries-i.is)) c.in-Some.ensures in
    let up : IsStrictlySortedBy table_key_cmp (table_keys e.writes) = ordered_at entries c.requires.storable c.args.i e here in
    let again = c.index-entries-i-2.result in
    let same : again ≡ e = c.index-entries-i-2.is ∙ get_or_default entries c.args.i again e c.requires.inside ∙ sym c.index-entries-i.is in
    let these : c.as_slice-2.result.now ≡ e.writes = c.as_slice-2.ensures ∙ ap (λ (x : Entry). x.writes) (sym c.index-entries-i-2.is ∙ same) in
    let low : c.in-Some.place < length c.as_slice-2.result.now =
    subst (λ (ws : List Write). c.in-Some.place < length ws) (sym these) (slice_get_within e.writes c.in-Some.place first.0 first.1) in
    let best : IsLeast c.args.bank above entries c.args.i (Some (c.in-Some-least.entry, c.in-Some-least.write)) = subst (IsLeast c.args.bank above entries c.args.i) c.in-Some-least.is c.requires.least in
    let was = best.2 in
    let f = c.index-entries-entry.result in
    let there : slice_get entries c.in-Some-least.entry ≡ Some f = slice_get_read entries (length entries) c.in-Some-least.entry f refl (omega (arith, was.below, c.requires.inside)) c.index-entries-entry.is in
    let its : best.0 ≡ f = let one = was.is_entry in cc (one, there) in
    let inside : c.in-Some-least.write < length f.writes = subst (λ (x : Entry). c.in-Some-least.write < length x.writes) its (slice_get_within best.0.writes c.in-Some-least.write best.1 was.is_write) in
    let before_low : c.in-Some-least.write < length c.as_slice-3.result.now = subst (λ (ws : List Write). c.in-Some-least.write < length ws) (sym (c.as_slice-3.ensures ∙ ap (λ (x : Entry). x.writes) (sym c.index-entries-entry.is))) inside in
    let w = c.index-as_slice-place.result in
    let w0 = c.index-as_slice-write.result in
    let at : slice_get e.writes c.in-Some.place ≡ Some w = subst (λ (ws : List Write). slice_get ws c.in-Some.place ≡ Some w) these
    (slice_get_read c.as_slice-2.result.now (length c.as_slice-2.result.now) c.in-Some.place w refl low c.index-as_slice-place.is) in
    let is_write : slice_get f.writes c.in-Some-least.write ≡ Some w0 = subst (λ (ws : List Write). slice_get ws c.in-Some-least.write ≡ Some w0) (c.as_slice-3.ensures ∙ ap (λ (x : Entry). x.writes) (sym c.index-entries-entry.is))
    (slice_get_read c.as_slice-3.result.now (length c.as_slice-3.result.now) c.in-Some-least.write w0 refl before_low c.index-as_slice-write.is) in
    let order : c.cmp_writes.result ≡ table_key_cmp (table_key_of w) (table_key_of w0) =
    c.cmp_writes.ensures in
    subst (IsLeast c.args.bank above entries (c.args.i + 1)) (sym c.in-Some-least.is)
    (least_keeps c.args.bank above entries c.args.i e here up c.in-Some.place w at first (c.in-Some-least.entry, c.in-Some-least.write) f w0 there is_write best (sym order ∙ c.in-Greater.is))

pub returns-in-Equal : goal.returns-in-Equal
returns-in-Equal c =
    let entries = c.args.entries.now in
    let above = option_copied c.args.above in
    let e = c.index-entries-i.result in
    let here : slice_get entries c.args.i ≡ Some e = slice_get_read entries (length entries) c.args.i e refl c.requires.inside c.index-entries-i.is in
    let first : IsFirstAbove c.args.bank above e.writes (length e.writes) (Some c.in-Some.place) =
    subst (λ (ws : List Write). IsFirstAbove c.args.bank above ws (length ws) (Some c.in-Some.place)) (c.as_slice.ensures ∙ ap (λ (x : Entry). x.writes) (sym c.index-entries-i.is)) c.in-Some.ensures in
    let up : IsStrictlySortedBy table_key_cmp (table_keys e.writes) = ordered_at entries c.requires.storable c.args.i e here in
    let again = c.index-entries-i-2.result in
    let same : again ≡ e = c.index-entries-i-2.is ∙ get_or_default entries c.args.i again e c.requires.inside ∙ sym c.index-entries-i.is in
    let these : c.as_slice-2.result.now ≡ e.writes = c.as_slice-2.ensures ∙ ap (λ (x : Entry). x.writes) (sym c.index-entries-i-2.is ∙ same) in
    let low : c.in-Some.place < length c.as_slice-2.result.now =
    subst (λ (ws : List Write). c.in-Some.place < length ws) (sym these) (slice_get_within e.writes c.in-Some.place first.0 first.1) in
    let best : IsLeast c.args.bank above entries c.args.i (Some (c.in-Some-least.entry, c.in-Some-least.write)) = subst (IsLeast c.args.bank above entries c.args.i) c.in-Some-least.is c.requires.least in
    let was = best.2 in
    let f = c.index-entries-entry.result in
    let there : slice_get entries c.in-Some-least.entry ≡ Some f = slice_get_read entries (length entries) c.in-Some-least.entry f refl (omega (arith, was.below, c.requires.inside)) c.index-entries-entry.is in
    let its : best.0 ≡ f = let one = was.is_entry in cc (one, there) in
    let inside : c.in-Some-least.write < length f.writes = subst (λ (x : Entry). c.in-Some-least.write < length x.writes) its (slice_get_within best.0.writes c.in-Some-least.write best.1 was.is_write) in
    let before_low : c.in-Some-least.write < length c.as_slice-3.result.now = subst (λ (ws : List Write). c.in-Some-least.write < length ws) (sym (c.as_slice-3.ensures ∙ ap (λ (x : Entry). x.writes) (sym c.index-entries-entry.is))) inside in
    let w = c.index-as_slice-place.result in
    let w0 = c.index-as_slice-write.result in
    let at : slice_get e.writes c.in-Some.place ≡ Some w = subst (λ (ws : List Write). slice_get ws c.in-Some.place ≡ Some w) these
    (slice_get_read c.as_slice-2.result.now (length c.as_slice-2.result.now) c.in-Some.place w refl low c.index-as_slice-place.is) in
    let is_write : slice_get f.writes c.in-Some-least.write ≡ Some w0 = subst (λ (ws : List Write). slice_get ws c.in-Some-least.write ≡ Some w0) (c.as_slice-3.ensures ∙ ap (λ (x : Entry). x.writes) (sym c.index-entries-entry.is))
    (slice_get_read c.as_slice-3.result.now (length c.as_slice-3.result.now) c.in-Some-least.write w0 refl before_low c.index-as_slice-write.is) in
    let order : c.cmp_writes.result ≡ table_key_cmp (table_key_of w) (table_key_of w0) =
    c.cmp_writes.ensures in
    least_takes c.args.bank above entries c.args.i e here up c.in-Some.place w at first (c.in-Some-least.entry, c.in-Some-least.write) f w0 there is_write best (ap is_gt (sym order ∙ c.in-Equal.is))

pub returns-in-Less : goal.returns-in-Less
returns-in-Less c =
    let entries = c.args.entries.now in
    let above = option_copied c.args.above in
    let e = c.index-entries-i.result in
    let here : slice_get entries c.args.i ≡ Some e = slice_get_read entries (length entries) c.args.i e refl c.requires.inside c.index-entries-i.is in
    let first : IsFirstAbove c.args.bank above e.writes (length e.writes) (Some c.in-Some.place) =
    subst (λ (ws : List Write). IsFirstAbove c.args.bank above ws (length ws) (Some c.in-Some.place)) (c.as_slice.ensures ∙ ap (λ (x : Entry). x.writes) (sym c.index-entries-i.is)) c.in-Some.ensures in
    let up : IsStrictlySortedBy table_key_cmp (table_keys e.writes) = ordered_at entries c.requires.storable c.args.i e here in
    let again = c.index-entries-i-2.result in
    let same : again ≡ e = c.index-entries-i-2.is ∙ get_or_default entries c.args.i again e c.requires.inside ∙ sym c.index-entries-i.is in
    let these : c.as_slice-2.result.now ≡ e.writes = c.as_slice-2.ensures ∙ ap (λ (x : Entry). x.writes) (sym c.index-entries-i-2.is ∙ same) in
    let low : c.in-Some.place < length c.as_slice-2.result.now =
    subst (λ (ws : List Write). c.in-Some.place < length ws) (sym these) (slice_get_within e.writes c.in-Some.place first.0 first.1) in
    let best : IsLeast c.args.bank above entries c.args.i (Some (c.in-Some-least.entry, c.in-Some-least.write)) = subst (IsLeast c.args.bank above entries c.args.i) c.in-Some-least.is c.requires.least in
    let was = best.2 in
    let f = c.index-entries-entry.result in
    let there : slice_get entries c.in-Some-least.entry ≡ Some f = slice_get_read entries (length entries) c.in-Some-least.entry f refl (omega (arith, was.below, c.requires.inside)) c.index-entries-entry.is in
    let its : best.0 ≡ f = let one = was.is_entry in cc (one, there) in
    let inside : c.in-Some-least.write < length f.writes = subst (λ (x : Entry). c.in-Some-least.write < length x.writes) its (slice_get_within best.0.writes c.in-Some-least.write best.1 was.is_write) in
    let before_low : c.in-Some-least.write < length c.as_slice-3.result.now = subst (λ (ws : List Write). c.in-Some-least.write < length ws) (sym (c.as_slice-3.ensures ∙ ap (λ (x : Entry). x.writes) (sym c.index-entries-entry.is))) inside in
    let w = c.index-as_slice-place.result in
    let w0 = c.index-as_slice-write.result in
    let at : slice_get e.writes c.in-Some.place ≡ Some w = subst (λ (ws : List Write). slice_get ws c.in-Some.place ≡ Some w) these
    (slice_get_read c.as_slice-2.result.now (length c.as_slice-2.result.now) c.in-Some.place w refl low c.index-as_slice-place.is) in
    let is_write : slice_get f.writes c.in-Some-least.write ≡ Some w0 = subst (λ (ws : List Write). slice_get ws c.in-Some-least.write ≡ Some w0) (c.as_slice-3.ensures ∙ ap (λ (x : Entry). x.writes) (sym c.index-entries-entry.is))
    (slice_get_read c.as_slice-3.result.now (length c.as_slice-3.result.now) c.in-Some-least.write w0 refl before_low c.index-as_slice-write.is) in
    let order : c.cmp_writes.result ≡ table_key_cmp (table_key_of w) (table_key_of w0) =
    c.cmp_writes.ensures in
    least_takes c.args.bank above entries c.args.i e here up c.in-Some.place w at first (c.in-Some-least.entry, c.in-Some-least.write) f w0 there is_write best (ap is_gt (sym order ∙ c.in-Less.is))

pub first_above-requires : goal.first_above-requires
first_above-requires c =
    let entries = c.args.entries.now in
    let e = c.index-entries-i.result in
    let here : slice_get entries c.args.i ≡ Some e = slice_get_read entries (length entries) c.args.i e refl c.requires.inside c.index-entries-i.is in
    let up : IsStrictlySortedBy table_key_cmp (table_keys e.writes) = ordered_at entries c.requires.storable c.args.i e here in
    subst (λ (ws : List Write). IsStrictlySortedBy table_key_cmp (table_keys ws)) (sym (c.as_slice.ensures ∙ ap (λ (x : Entry). x.writes) (sym c.index-entries-i.is))) up
