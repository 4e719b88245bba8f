use Rattle.std.proofs.Common.{◌≡◌, ℕ, true, Option, Result, Err, refl, sym, ap, subst, ◌∙◌, inl}
use Rattle.std.specs.Prelude.{IfErr}
use Rattle.std.proofs.lemmas.Result.{err_from_is_err_and}
use Rattle.odb_device.specs.World.{File, World}
use Rattle.odb_device.specs.Calls.{FileCountRose}
use Rattle.odb_tool.specs.Created.{is_made, MakesFiles}
use Rattle.odb_tool.proofs.Making.{makes_begin, makes_then, rose_then, keeps_one, keeps_then, log_last}
use Rattle.odb_tool.proofs.create.make_files.Goals as goal

-- a stretch on one file, of which nothing is asked
abbrev any : Option File → Type 0
any o = Unit {0}

pub returns-in_err-make_databank-2-clause-only : goal.returns-in_err-make_databank-2-clause-only
returns-in_err-make_databank-2-clause-only g c =
    let w : World = g.S.Outside.world c.args.store.now in
    let a : World = g.S.Outside.world c.make_databank.new.store in
    let b : World = g.S.Outside.world c.make_databank-2.new.store in
    makes_then 3 any w a b refl (makes_then 2 any w w a refl (makes_begin w) c.make_databank.ensures.run) c.make_databank-2.ensures.run

pub returns-in_err-make_databank-2-clause-order : goal.returns-in_err-make_databank-2-clause-order
returns-in_err-make_databank-2-clause-order g c =
    let w : World = g.S.Outside.world c.args.store.now in
    let a : World = g.S.Outside.world c.make_databank.new.store in
    let b : World = g.S.Outside.world c.make_databank-2.new.store in
    inl (keeps_then 3 any w a b (λ e. cc e) (keeps_one 2 any w a (λ e. cc e) c.make_databank.ensures.run) c.make_databank-2.ensures.run)

pub returns-in_err-make_databank-3-clause-only : goal.returns-in_err-make_databank-3-clause-only
returns-in_err-make_databank-3-clause-only g c =
    let w : World = g.S.Outside.world c.args.store.now in
    let a : World = g.S.Outside.world c.make_databank.new.store in
    let b : World = g.S.Outside.world c.make_databank-2.new.store in
    let d : World = g.S.Outside.world c.make_databank-3.new.store in
    makes_then 4 any w b d refl (makes_then 3 any w a b refl (makes_then 2 any w w a refl (makes_begin w) c.make_databank.ensures.run) c.make_databank-2.ensures.run) c.make_databank-3.ensures.run

pub returns-in_err-make_databank-3-clause-order : goal.returns-in_err-make_databank-3-clause-order
returns-in_err-make_databank-3-clause-order g c =
    let w : World = g.S.Outside.world c.args.store.now in
    let a : World = g.S.Outside.world c.make_databank.new.store in
    let b : World = g.S.Outside.world c.make_databank-2.new.store in
    let d : World = g.S.Outside.world c.make_databank-3.new.store in
    inl (keeps_then 4 any w b d (λ e. cc e) (keeps_then 3 any w a b (λ e. cc e) (keeps_one 2 any w a (λ e. cc e) c.make_databank.ensures.run) c.make_databank-2.ensures.run) c.make_databank-3.ensures.run)

pub returns-in_err-make_databank-3-clause-cause : goal.returns-in_err-make_databank-3-clause-cause
returns-in_err-make_databank-3-clause-cause g c =
    let w : World = g.S.Outside.world c.args.store.now in
    let a : World = g.S.Outside.world c.make_databank.new.store in
    let b : World = g.S.Outside.world c.make_databank-2.new.store in
    let d : World = g.S.Outside.world c.make_databank-3.new.store in
    let before : MakesFiles w b = makes_then 3 any w a b refl (makes_then 2 any w w a refl (makes_begin w) c.make_databank.ensures.run) c.make_databank-2.ensures.run in
    let p = err_from_is_err_and c.from_residual-in_err-make_databank-3.result c.from_residual-in_err-make_databank-3.ensures.1 in
    subst (λ (r : Result (Unit {0}) ℕ). IfErr r (λ file. (is_made file ≡ true) × FileCountRose file w d)) (sym (p.1 ∙ ap Err p.2))
    (subst (λ (file : ℕ). (is_made file ≡ true) × FileCountRose file w d) (sym c.in_err-make_databank-3.ensures.refusal)
    (refl, rose_then 4 w b d before c.in_err-make_databank-3.ensures.cause))

pub returns-in-Ok-clause-only : goal.returns-in-Ok-clause-only
returns-in-Ok-clause-only g c =
    let w : World = g.S.Outside.world c.args.store.now in
    let a : World = g.S.Outside.world c.make_databank.new.store in
    let b : World = g.S.Outside.world c.make_databank-2.new.store in
    let d : World = g.S.Outside.world c.make_databank-3.new.store in
    let e : World = g.S.Outside.world c.create.new.store in
    makes_then 0 any w d e refl (makes_then 4 any w b d refl (makes_then 3 any w a b refl (makes_then 2 any w w a refl (makes_begin w) c.make_databank.ensures.run) c.make_databank-2.ensures.run) c.make_databank-3.ensures.run) c.create.ensures.run

pub returns-in-Ok-clause-order : goal.returns-in-Ok-clause-order
returns-in-Ok-clause-order g c =
    let w : World = g.S.Outside.world c.args.store.now in
    let a : World = g.S.Outside.world c.make_databank.new.store in
    let b : World = g.S.Outside.world c.make_databank-2.new.store in
    let d : World = g.S.Outside.world c.make_databank-3.new.store in
    let e : World = g.S.Outside.world c.create.new.store in
    log_last c.args.side_kib any any any w a b d e c.make_databank.ensures.run c.make_databank-2.ensures.run c.make_databank-3.ensures.run c.create.ensures.moments
    c.in_ok-make_databank.ensures.made c.in_ok-make_databank-2.ensures.made c.in_ok-make_databank-3.ensures.made

pub returns-in-Err-clause-only : goal.returns-in-Err-clause-only
returns-in-Err-clause-only g c =
    let w : World = g.S.Outside.world c.args.store.now in
    let a : World = g.S.Outside.world c.make_databank.new.store in
    let b : World = g.S.Outside.world c.make_databank-2.new.store in
    let d : World = g.S.Outside.world c.make_databank-3.new.store in
    let e : World = g.S.Outside.world c.create.new.store in
    makes_then 0 any w d e refl (makes_then 4 any w b d refl (makes_then 3 any w a b refl (makes_then 2 any w w a refl (makes_begin w) c.make_databank.ensures.run) c.make_databank-2.ensures.run) c.make_databank-3.ensures.run) c.create.ensures.run

pub returns-in-Err-clause-order : goal.returns-in-Err-clause-order
returns-in-Err-clause-order g c =
    let w : World = g.S.Outside.world c.args.store.now in
    let a : World = g.S.Outside.world c.make_databank.new.store in
    let b : World = g.S.Outside.world c.make_databank-2.new.store in
    let d : World = g.S.Outside.world c.make_databank-3.new.store in
    let e : World = g.S.Outside.world c.create.new.store in
    log_last c.args.side_kib any any any w a b d e c.make_databank.ensures.run c.make_databank-2.ensures.run c.make_databank-3.ensures.run c.create.ensures.moments
    c.in_ok-make_databank.ensures.made c.in_ok-make_databank-2.ensures.made c.in_ok-make_databank-3.ensures.made

pub returns-in-Err-clause-cause : goal.returns-in-Err-clause-cause
returns-in-Err-clause-cause g c =
    let w : World = g.S.Outside.world c.args.store.now in
    let a : World = g.S.Outside.world c.make_databank.new.store in
    let b : World = g.S.Outside.world c.make_databank-2.new.store in
    let d : World = g.S.Outside.world c.make_databank-3.new.store in
    let e : World = g.S.Outside.world c.create.new.store in
    let before : MakesFiles w d =
    makes_then 4 any w b d refl (makes_then 3 any w a b refl (makes_then 2 any w w a refl (makes_begin w) c.make_databank.ensures.run) c.make_databank-2.ensures.run) c.make_databank-3.ensures.run in
    (refl, rose_then 0 w d e before c.in-Err.ensures.cause)
