use Rattle.std.proofs.Common.{◌≡◌, ◌+◌, ◌<◌, ◌≤◌, List, [], ◌∷◌, ◌++◌, Bool, length, ap, sym, ◌∙◌, arith, append_assoc, length-append}
use Rattle.odb_model.specs.declared.write.Write.{Write}
use Rattle.odb_model.specs.declared.table_key.TableKey.{TableKey}
use Rattle.odb_model.specs.declared.intention.Intention.{Intention}
use Rattle.odb_rowsource.specs.Intentions.{put, put_all}
use Rattle.odb_rowsource.proofs.Kept.{length-put_all, put_all-append}
use Rattle.odb_rowsource.proofs.intentions.Intentions.put_all.Goals as goal

pub put-requires-clause-place : goal.put-requires-clause-place
put-requires-clause-place c =
    let rest : List Write = c.next.new.self.rest.items in
    let all : c.loop-write.yielded ++ c.in-Some.write ∷ rest ≡ c.args.writes =
    ap (λ (ws : List Write). c.loop-write.yielded ++ ws) (sym c.in-Some.ensures.steps.0) ∙ c.loop-write.invariant.2 in
    omega (arith, sym (length-append c.loop-write.yielded (c.in-Some.write ∷ rest)) ∙ ap length all, c.loop-write.invariant.1, c.requires.places)

pub put-requires-clause-few : goal.put-requires-clause-few
put-requires-clause-few c =
    let there : TableKey → Bool = λ _. c.args.was_there in
    let rest : List Write = c.next.new.self.rest.items in
    let next : List Intention = put c.loop-write.self.items c.in-Some.write c.args.was_there in
    let whole : c.loop-write.yielded ++ c.in-Some.write ∷ rest ≡ c.args.writes =
    ap (λ (ws : List Write). c.loop-write.yielded ++ ws) (sym c.in-Some.ensures.steps.0) ∙ c.loop-write.invariant.2 in
    let all : put_all next rest there ≡ put_all c.args.self.now.items c.args.writes there =
    ap (λ (is : List Intention). put_all is (c.in-Some.write ∷ rest) there) c.loop-write.invariant.0
    ∙ sym (put_all-append c.loop-write.yielded (c.in-Some.write ∷ rest) c.args.self.now.items there)
    ∙ ap (λ (ws : List Write). put_all c.args.self.now.items ws there) whole in
    omega (arith, length-put_all rest next there, ap length all, c.requires.few)

pub loop-write-preserved : goal.loop-write-preserved
loop-write-preserved c =
    let there : TableKey → Bool = λ _. c.args.was_there in
    let rest : List Write = c.next.new.self.rest.items in
    let whole : c.loop-write.yielded ++ c.in-Some.write ∷ rest ≡ c.args.writes =
    ap (λ (ws : List Write). c.loop-write.yielded ++ ws) (sym c.in-Some.ensures.steps.0) ∙ c.loop-write.invariant.2 in
    let lengths : length c.loop-write.yielded + length (c.in-Some.write ∷ rest) ≡ length c.args.writes =
    sym (length-append c.loop-write.yielded (c.in-Some.write ∷ rest)) ∙ ap length whole in (
      ap (λ p. p.items) c.put.ensures
          ∙ ap (λ (is : List Intention). put is c.in-Some.write c.args.was_there) c.loop-write.invariant.0
          ∙ sym (put_all-append c.loop-write.yielded (c.in-Some.write ∷ []) c.args.self.now.items there),
      omega (arith, ap (λ p. p.spare) c.put.ensures, length-append c.loop-write.yielded (c.in-Some.write ∷ []), c.loop-write.invariant.1, lengths, c.requires.places),
      append_assoc c.loop-write.yielded (c.in-Some.write ∷ []) rest ∙ whole,
    )
