-- What a turn is to do, and why none may begin.
use Rattle.std.proofs.Common.{◌≡◌, ℕ, ◌+◌, ◌<◌, ◌≤◌, List, length, Err, Ok, ◌∙◌, ap, subst, arith}
use Rattle.std.specs.Prelude.{map}
use Rattle.std.proofs.lemmas.List.{length-map}
use Rattle.odb_model.specs.declared.entry.Entry.{Entry}
use Rattle.odb_bank.specs.declared.begin.Plan.{Plan}
use Rattle.odb_bank.specs.declared.error.BankError.TheVariants.{Limit}
use Rattle.odb_bank.specs.declared.kept.Kept.{Kept}
use Rattle.odb_bank.specs.Additions.{record_of}
use Rattle.odb_bank.specs.Bank.{BankState}
use Rattle.odb_bank.specs.Begun.{IsReachAnswer, IsPlanAnswer}
use Rattle.odb_bank.specs.Closing.{closing_of, staying_of}
use Rattle.odb_bank.specs.Filling.{AreItemsFor, AreKeptFor}
use Rattle.odb_bank.specs.Latest.{AreLatest}
use Rattle.odb_bank.specs.Records.{Record}
use Rattle.odb_bank.specs.Room.{AreFree}

module _ (b : BankState) (entries : List Entry) (n : ℕ) (reach : IsReachAnswer b entries (Ok n)) (staying : List ℕ) (stays : staying ≡ map (λ (it : Kept). it.slot) (staying_of b)) where
  as_many : length staying ≡ length (staying_of b)
  as_many = ap length stays ∙ length-map (staying_of b) (λ (it : Kept). it.slot)

  pub plan_lacks : (records : List Record) → AreLatest b.bank entries records → 4194304 < length staying + length records → IsPlanAnswer b entries (Err Limit)
  plan_lacks records latest many = (reach.0, reach.1, (records, latest, omega (arith, many, as_many)))

  pub plan_made : (p : Plan) → p.reached ≡ n → p.closing.items ≡ closing_of b → AreLatest b.bank entries (map record_of p.additions.items) → length staying + length p.additions.items ≤ 4194304
      → AreFree staying (length p.additions.items) p.run.items
      → AreItemsFor p.run.items (map record_of p.additions.items) p.items.items (length p.additions.items)
      → AreKeptFor p.run.items (map record_of p.additions.items) p.kept.items (length p.additions.items)
      → IsPlanAnswer b entries (Ok p)
  plan_made p reached closing latest fits free items kept = (
    reach.0,
    reach.1,
    record {
      closing = closing;
      latest = latest;
      fits = omega (arith, fits, as_many);
      free = subst (λ (l : List ℕ). AreFree l (length p.additions.items) p.run.items) stays free;
      items = items;
      keeps = kept;
      reached = reached ∙ reach.2;
    },
  )
