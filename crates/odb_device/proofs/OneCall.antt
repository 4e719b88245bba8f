-- What one call of a store leaves.
use Rattle.std.proofs.Common.{◌≡◌, ◌⊎◌, inl, inr, ℕ, List, length, Option, Some, Result, Ok, Err, sym, ◌∙◌, ap, subst}
use Rattle.std.specs.Prelude.{OnOk, OnErr, option_map, IfSome}
use Rattle.odb_device.specs.World.{File, World, file_of}
use Rattle.odb_device.specs.Images.{ReadsImage, Torn, TornFrom, torn}
use Rattle.odb_device.specs.Calls.{Writes, Tears, Keeps, Unsettles}
use Rattle.odb_device.proofs.Torn.{torn_same, writes_from, tears_from, keeps_from, unsettles_from}

-- a write of n bytes that failed and changed none, of which a crash may still leave any
pub tears_same : (file at n : ℕ) (f : File) (old new : World) → file_of file old ≡ Some f → file_of file new ≡ Some (torn at n f.bytes f) → Tears file at n old new
tears_same file at n f old new was is = inr (
  f.bytes,
  is ∙ sym (ap (option_map (torn at n f.bytes)) was),
  subst (λ (o : Option File). IfSome o (λ b. Torn at n b.bytes f.bytes)) (sym was) (torn_same at n f.bytes),
)

-- what a sync made of the file, whatever it answers
pub sync_either : {E : Type 0} → (file : ℕ) (old new : World) (result : Result (Unit {0}) E) → OnOk result (Keeps file old new) → OnErr result (Unsettles file old new) → Keeps file old new ⊎ Unsettles file old new
sync_either file old new (Ok u) keeps unsettles = inl keeps
sync_either file old new (Err e) keeps unsettles = inr unsettles

-- what a write leaves, whatever it answers
module _ {E : Type 0} (file : ℕ) (old new : World) (result : Result (Unit {0}) E) where
  pub write_from : (at : ℕ) (bytes : List ℕ) → OnOk result (Writes file at bytes old new) → OnErr result (Tears file at (length bytes) old new) → TornFrom at (length bytes) (file_of file old) (file_of file new)
  write_from at bytes = elim result as (λ r. OnOk r (Writes file at bytes old new) → OnErr r (Tears file at (length bytes) old new) → TornFrom at (length bytes) (file_of file old) (file_of file new)) [
    | Ok u ↦ λ ok err. writes_from at bytes _ _ ok
    | Err e ↦ λ ok err. tears_from at (length bytes) _ _ err
  ]

  -- and a sync behind it, `first` being the world before the write
  pub sync_from : (at n : ℕ) (first : World) → TornFrom at n (file_of file first) (file_of file old) → ReadsImage (file_of file old) → OnOk result (Keeps file old new) → OnErr result (Unsettles file old new)
      → TornFrom at n (file_of file first) (file_of file new)
  sync_from at n first from reads = elim result as (λ r. OnOk r (Keeps file old new) → OnErr r (Unsettles file old new) → TornFrom at n (file_of file first) (file_of file new)) [
    | Ok u ↦ λ ok err. keeps_from at n _ _ _ from reads ok
    | Err e ↦ λ ok err. unsettles_from at n _ _ _ from err
  ]
