use Rattle.std.proofs.Common.{◌≡◌, ℕ, List, [], ◌∷◌, option_map, ap, sym, ◌∙◌}
use Rattle.std.specs.FinMap.{entries}
use Rattle.std.proofs.lemmas.Result.{IfOk-weaker}
use Rattle.odb_model.specs.State.{State, part_in}
use Rattle.odb_model.specs.Databanks.{Databank, databank_rows, databanks_told, fixed_files, databank_named}
use Rattle.odb_catalog.proofs.Numbers.{named_further}
use Rattle.odb_catalog.proofs.Passing.{number_among}
use Rattle.odb_catalog.proofs.lookup.databank_named.Goals as goal

pub returns-clause-number : goal.returns-clause-number
returns-clause-number g c =
    let s : State = g.R.RowSource.state c.args.rows.now in
    let name : List ℕ = c.args.name.now in
    let files : c.in_ok-fixed_files.field-0.items ≡ fixed_files s =
    c.in_ok-fixed_files.ensures ∙ ap (λ n. 2 ∷ 3 ∷ n ∷ []) (ap (λ m. m.file) c.in_ok-main.ensures.main) in
    let same : number_among name c.in_ok-fixed_files.field-0.items (databanks_told (entries (part_in databank_rows (g.R.RowSource.state c.main_databank.new.rows)))) ≡ option_map (λ b. b.number) (databank_named s name) =
    ap (λ (v : State). number_among name c.in_ok-fixed_files.field-0.items (databanks_told (entries (part_in databank_rows v)))) c.main_databank.ensures.state
    ∙ ap (λ (fs : List ℕ). number_among name fs (databanks_told (entries (part_in databank_rows s)))) files
    ∙ ap (option_map (λ (b : Databank). b.number)) (sym (named_further s name (sym c.is_sysdb.ensures ∙ c.if-is_sysdb.false) (sym c.is_main.ensures ∙ c.if-is_main.false))) in
    IfOk-weaker c.further_databank.result (λ n. n ≡ number_among name c.in_ok-fixed_files.field-0.items (databanks_told (entries (part_in databank_rows (g.R.RowSource.state c.main_databank.new.rows)))))
    (λ n. n ≡ option_map (λ b. b.number) (databank_named s name)) (λ n e. e ∙ same) c.further_databank.ensures.number
