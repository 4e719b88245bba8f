use Rattle.std.proofs.Common.{◌≡◌, ℕ, ◌^◌, ◌<◌, List, [], ◌∷◌, ◌++◌, length, sym, ◌∙◌, ap, subst, arith}
use Rattle.std.specs.List.{All}
use Rattle.std.proofs.lemmas.List.Elements.{All-push, All-more}
use Rattle.odb_codec.specs.Image.{HasImage}
use Rattle.odb_values.specs.Listed.{Listed}
use Rattle.odb_logdb.proofs.Lists.{images_more}
use Rattle.odb_logdb.proofs.appending.images_of.Goals as goal

pub loop-entry-preserved : goal.loop-entry-preserved
loop-entry-preserved c =
    let k = c.loop-entry.entry-index in
    let e = c.entry-item.result in
    let entries = c.args.entries.now in
    let image = c.in_ok-image.image in
    let items = c.loop-entry.images.items in
    let pushed : c.push.new.self.items ≡ items ++ image ∷ [] =
    ap (λ (l : Listed (List ℕ)). l.items) c.push.ensures ∙ ap (λ (l : Listed (List ℕ)). l.items ++ image ∷ []) c.in_ok-reserve.ensures.ok in
    let within : k < length entries = omega arith in
    record {
      items = pushed ∙ images_more entries k e items image within c.entry-item.is c.loop-entry.invariant.items c.in_ok-image.ensures.image;
      lawful = All-more HasImage entries k e within c.loop-entry.invariant.lawful (subst HasImage c.entry-item.is c.in_ok-image.ensures.lawful);
      short = subst (All (λ (image : List ℕ). length image < 2 ^ 32)) (sym pushed) (All-push (λ (image : List ℕ). length image < 2 ^ 32) items image c.loop-entry.invariant.short c.in_ok-image.ensures.short);
    }
