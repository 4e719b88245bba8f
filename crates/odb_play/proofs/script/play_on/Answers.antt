use Rattle.std.proofs.Common.{◌≡◌, ℕ, ◌+◌, ◌≤◌, take, length, Err, sym, subst, ap, ◌∙◌, arith}
use Rattle.std.proofs.lemmas.List.{length-take-le}
use Rattle.odb_device.proofs.Talking.{talks_none, talks_files}
use Rattle.odb_model.specs.declared.status.Status.{Status}
use Rattle.odb_machine.specs.Play.{most_input}
use Rattle.odb_system.specs.Durable.{IsDurable}
use Rattle.odb_play.specs.declared.player.Stop.{Stop}
use Rattle.odb_play.specs.declared.player.Stop.TheVariants.{WriteFault}
use Rattle.odb_play.specs.Played.{IsPlayedOn}
use Rattle.odb_play.proofs.Outside.{touches_talks, touches_then, say_rose_later, take_rose_later}
use Rattle.odb_play.proofs.Playing.{IsPlaying, TookPiece, begins_with, took_some, took_none, met_end, one_of, stop_of_output, stops_any, goes_any, ends_any, stops_input, stops_long, at_taken}
use Rattle.odb_play.proofs.script.play_on.Goals as goal

pub loop-taken-init : goal.loop-taken-init
loop-taken-init g c = record {
  few = omega arith;
  room = c.requires.room;
  only = touches_talks 0 (g.H.Outside.world c.args.host.now) (g.H.Outside.world c.args.host.now) (talks_none (g.H.Outside.world c.args.host.now));
  durable = c.requires.durable;
  playing = λ m stands rests none. begins_with m c.args.player.now.system c.args.player.now.front.items (g.H.Outside.world c.args.host.now) stands rests none;
}

pub feed-requires : goal.feed-requires
feed-requires g c =
    record { durable = subst (IsDurable c.loop-taken.player.system) (sym (talks_files (g.H.Outside.world c.loop-taken.host) (g.H.Outside.world c.take_some.new.host) c.take_some.ensures.talks 0)) c.loop-taken.invariant.durable }

pub end-requires : goal.end-requires
end-requires g c =
    record { durable = subst (IsDurable c.loop-taken.player.system) (sym (talks_files (g.H.Outside.world c.loop-taken.host) (g.H.Outside.world c.take_some.new.host) c.take_some.ensures.talks 0)) c.loop-taken.invariant.durable }

pub end-requires-then-n-eq0-2 : goal.end-requires-then-n-eq0-2
end-requires-then-n-eq0-2 g c =
    record { durable = subst (IsDurable c.loop-taken.player.system) (sym (talks_files (g.H.Outside.world c.loop-taken.host) (g.H.Outside.world c.take_some-2.new.host) c.take_some-2.ensures.talks 0)) c.loop-taken.invariant.durable }

pub returns-in_default-clause-played : goal.returns-in_default-clause-played
returns-in_default-clause-played g c = λ m stands rests none.
    stops_input m stands.answered c.loop-taken.player.system c.loop-taken.player.front.items c.loop-taken.taken (g.H.Outside.world c.args.host.now) (g.H.Outside.world c.loop-taken.host)
    (c.loop-taken.invariant.playing m stands rests none)
    (g.H.Outside.world c.take_some.new.host) c.take_some.ensures.talks c.take_some.ensures.silent c.in_default.ensures.failed c.loop-taken.invariant.few

pub returns-in_default-clause-read_fault : goal.returns-in_default-clause-read_fault
returns-in_default-clause-read_fault g c = λ same.
    take_rose_later (g.H.Outside.world c.args.host.now) (g.H.Outside.world c.loop-taken.host) (g.H.Outside.world c.take_some.new.host) c.loop-taken.invariant.only c.in_default.ensures.cause

pub returns-then-n-eq0-clause-played : goal.returns-then-n-eq0-clause-played
returns-then-n-eq0-clause-played g c = λ m stands rests none.
    let playing = c.loop-taken.invariant.playing m stands rests none in
    ends_any m stands.answered c.loop-taken.player.system c.loop-taken.player.front.items c.loop-taken.taken (g.H.Outside.world c.args.host.now) (g.H.Outside.world c.loop-taken.host)
    playing
    (g.H.Outside.world c.take_some.new.host) c.take_some.ensures.talks c.take_some.ensures.silent
    (took_none c.in-Ok.n c.take_some.new.piece (g.H.Outside.world c.loop-taken.host) (g.H.Outside.world c.take_some.new.host) c.if-n-eq0.true c.in-Ok.ensures.taken)
    (met_end c.in-Ok.n (g.H.Outside.world c.loop-taken.host) (g.H.Outside.world c.take_some.new.host) c.if-n-eq0.true c.in-Ok.ensures.ended)
    c.loop-taken.invariant.few (g.H.Outside.world c.end.new.host) c.end.ensures.input c.end.result
    (c.end.ensures.finished m playing.input playing.answers (at_taken m stands.answered c.loop-taken.player.system c.loop-taken.player.front.items c.loop-taken.taken (g.H.Outside.world c.args.host.now) (g.H.Outside.world c.loop-taken.host) playing (g.H.Outside.world c.take_some.new.host) c.take_some.ensures.talks))

pub returns-then-n-eq0-clause-write_fault : goal.returns-then-n-eq0-clause-write_fault
returns-then-n-eq0-clause-write_fault g c = λ same.
    say_rose_later (g.H.Outside.world c.args.host.now) (g.H.Outside.world c.take_some.new.host) (g.H.Outside.world c.end.new.host)
    (touches_then 0 (g.H.Outside.world c.args.host.now) (g.H.Outside.world c.loop-taken.host) (g.H.Outside.world c.take_some.new.host) c.loop-taken.invariant.only
    (touches_talks 0 (g.H.Outside.world c.loop-taken.host) (g.H.Outside.world c.take_some.new.host) c.take_some.ensures.talks))
    (c.end.ensures.write_fault same)

pub returns-in-Err-clause-played : goal.returns-in-Err-clause-played
returns-in-Err-clause-played g c = λ m stands rests none.
    let playing = c.loop-taken.invariant.playing m stands rests none in
    let within : c.in-Ok.n ≤ length c.take_some.new.piece = omega (arith, c.in-Ok.ensures.bound) in
    let count : length (take c.in-Ok.n c.take_some.new.piece) ≡ c.in-Ok.n = length-take-le c.in-Ok.n c.take_some.new.piece within in
    let few : c.loop-taken.taken + c.in-Ok.n ≤ most_input = omega (arith, c.in-Ok.ensures.bound) in
    let took : TookPiece (take c.in-Ok.n c.take_some.new.piece) (g.H.Outside.world c.loop-taken.host) (g.H.Outside.world c.take_some.new.host) =
    took_some c.in-Ok.n c.take_some.new.piece (g.H.Outside.world c.loop-taken.host) (g.H.Outside.world c.take_some.new.host) c.if-n-eq0.false within c.take_some.ensures.talks c.take_some.ensures.silent c.in-Ok.ensures.taken c.in-Ok.ensures.ended in
    subst (λ (status : Status). IsPlayedOn m status (g.H.Outside.world c.args.host.now) (g.H.Outside.world c.feed.new.host)) (sym c.status.ensures)
    (stops_any m stands.answered c.loop-taken.player.system c.loop-taken.player.front.items c.loop-taken.taken (g.H.Outside.world c.args.host.now) (g.H.Outside.world c.loop-taken.host)
    playing
    (take c.in-Ok.n c.take_some.new.piece) (g.H.Outside.world c.take_some.new.host) took (subst (λ (n : ℕ). c.loop-taken.taken + n ≤ most_input) (sym count) few)
    c.feed.new.self.system c.feed.new.self.front.items (g.H.Outside.world c.feed.new.host) c.feed.ensures.input (Unit {0}) c.in-Err.stop
    (c.in-Err.ensures.bytes m playing.input playing.answers (at_taken m stands.answered c.loop-taken.player.system c.loop-taken.player.front.items c.loop-taken.taken (g.H.Outside.world c.args.host.now) (g.H.Outside.world c.loop-taken.host) playing (g.H.Outside.world c.take_some.new.host) c.take_some.ensures.talks)))

pub returns-in-Err-clause-write_fault : goal.returns-in-Err-clause-write_fault
returns-in-Err-clause-write_fault g c = λ same.
    let stop : c.in-Err.stop ≡ WriteFault = stop_of_output c.in-Err.stop (sym c.status.ensures ∙ same) in
    say_rose_later (g.H.Outside.world c.args.host.now) (g.H.Outside.world c.take_some.new.host) (g.H.Outside.world c.feed.new.host)
    (touches_then 0 (g.H.Outside.world c.args.host.now) (g.H.Outside.world c.loop-taken.host) (g.H.Outside.world c.take_some.new.host) c.loop-taken.invariant.only
    (touches_talks 0 (g.H.Outside.world c.loop-taken.host) (g.H.Outside.world c.take_some.new.host) c.take_some.ensures.talks))
    (c.feed.ensures.cause (c.in-Err.is ∙ ap (λ (s : Stop). Err s) stop))

pub loop-taken-preserved : goal.loop-taken-preserved
loop-taken-preserved g c =
    let within : c.in-Ok.n ≤ length c.take_some.new.piece = omega (arith, c.in-Ok.ensures.bound) in
    let count : length (take c.in-Ok.n c.take_some.new.piece) ≡ c.in-Ok.n = length-take-le c.in-Ok.n c.take_some.new.piece within in
    let few : c.loop-taken.taken + c.in-Ok.n ≤ most_input = omega (arith, c.in-Ok.ensures.bound) in
    let took : TookPiece (take c.in-Ok.n c.take_some.new.piece) (g.H.Outside.world c.loop-taken.host) (g.H.Outside.world c.take_some.new.host) =
    took_some c.in-Ok.n c.take_some.new.piece (g.H.Outside.world c.loop-taken.host) (g.H.Outside.world c.take_some.new.host) c.if-n-eq0.false within c.take_some.ensures.talks c.take_some.ensures.silent c.in-Ok.ensures.taken c.in-Ok.ensures.ended in
    record {
      few = few;
      room = omega arith;
      only = touches_then 0 (g.H.Outside.world c.args.host.now) (g.H.Outside.world c.loop-taken.host) (g.H.Outside.world c.feed.new.host) c.loop-taken.invariant.only
          (touches_then 0 (g.H.Outside.world c.loop-taken.host) (g.H.Outside.world c.take_some.new.host) (g.H.Outside.world c.feed.new.host)
          (touches_talks 0 (g.H.Outside.world c.loop-taken.host) (g.H.Outside.world c.take_some.new.host) c.take_some.ensures.talks) c.feed.ensures.only);
      durable = c.feed.ensures.durable;
      playing = λ m stands rests none.
          let playing = c.loop-taken.invariant.playing m stands rests none in
          subst (λ (n : ℕ). IsPlaying m c.feed.new.self.system c.feed.new.self.front.items (c.loop-taken.taken + n) (g.H.Outside.world c.args.host.now) (g.H.Outside.world c.feed.new.host)) count
          (goes_any m stands.answered c.loop-taken.player.system c.loop-taken.player.front.items c.loop-taken.taken (g.H.Outside.world c.args.host.now) (g.H.Outside.world c.loop-taken.host)
          playing
          (take c.in-Ok.n c.take_some.new.piece) (g.H.Outside.world c.take_some.new.host) took (subst (λ (n : ℕ). c.loop-taken.taken + n ≤ most_input) (sym count) few)
          c.feed.new.self.system c.feed.new.self.front.items (g.H.Outside.world c.feed.new.host) c.feed.ensures.input c.feed.result c.in_default-feed.not-Err
          (c.feed.ensures.bytes m playing.input playing.answers (at_taken m stands.answered c.loop-taken.player.system c.loop-taken.player.front.items c.loop-taken.taken (g.H.Outside.world c.args.host.now) (g.H.Outside.world c.loop-taken.host) playing (g.H.Outside.world c.take_some.new.host) c.take_some.ensures.talks)));
    }

pub returns-in_default-take_some-clause-played : goal.returns-in_default-take_some-clause-played
returns-in_default-take_some-clause-played g c = λ m stands rests none.
    stops_input m stands.answered c.loop-taken.player.system c.loop-taken.player.front.items c.loop-taken.taken (g.H.Outside.world c.args.host.now) (g.H.Outside.world c.loop-taken.host)
    (c.loop-taken.invariant.playing m stands rests none)
    (g.H.Outside.world c.take_some-2.new.host) c.take_some-2.ensures.talks c.take_some-2.ensures.silent c.in_default-take_some.ensures.failed c.loop-taken.invariant.few

pub returns-in_default-take_some-clause-read_fault : goal.returns-in_default-take_some-clause-read_fault
returns-in_default-take_some-clause-read_fault g c = λ same.
    take_rose_later (g.H.Outside.world c.args.host.now) (g.H.Outside.world c.loop-taken.host) (g.H.Outside.world c.take_some-2.new.host) c.loop-taken.invariant.only c.in_default-take_some.ensures.cause

pub returns-then-n-eq0-2-clause-played : goal.returns-then-n-eq0-2-clause-played
returns-then-n-eq0-2-clause-played g c = λ m stands rests none.
    let playing = c.loop-taken.invariant.playing m stands rests none in
    ends_any m stands.answered c.loop-taken.player.system c.loop-taken.player.front.items c.loop-taken.taken (g.H.Outside.world c.args.host.now) (g.H.Outside.world c.loop-taken.host)
    playing
    (g.H.Outside.world c.take_some-2.new.host) c.take_some-2.ensures.talks c.take_some-2.ensures.silent
    (took_none c.in-Ok-take_some.n c.take_some-2.new.piece (g.H.Outside.world c.loop-taken.host) (g.H.Outside.world c.take_some-2.new.host) c.if-n-eq0-2.true c.in-Ok-take_some.ensures.taken)
    (met_end c.in-Ok-take_some.n (g.H.Outside.world c.loop-taken.host) (g.H.Outside.world c.take_some-2.new.host) c.if-n-eq0-2.true c.in-Ok-take_some.ensures.ended)
    c.loop-taken.invariant.few (g.H.Outside.world c.end-then-n-eq0-2.new.host) c.end-then-n-eq0-2.ensures.input c.end-then-n-eq0-2.result
    (c.end-then-n-eq0-2.ensures.finished m playing.input playing.answers (at_taken m stands.answered c.loop-taken.player.system c.loop-taken.player.front.items c.loop-taken.taken (g.H.Outside.world c.args.host.now) (g.H.Outside.world c.loop-taken.host) playing (g.H.Outside.world c.take_some-2.new.host) c.take_some-2.ensures.talks))

pub returns-then-n-eq0-2-clause-write_fault : goal.returns-then-n-eq0-2-clause-write_fault
returns-then-n-eq0-2-clause-write_fault g c = λ same.
    say_rose_later (g.H.Outside.world c.args.host.now) (g.H.Outside.world c.take_some-2.new.host) (g.H.Outside.world c.end-then-n-eq0-2.new.host)
    (touches_then 0 (g.H.Outside.world c.args.host.now) (g.H.Outside.world c.loop-taken.host) (g.H.Outside.world c.take_some-2.new.host) c.loop-taken.invariant.only
    (touches_talks 0 (g.H.Outside.world c.loop-taken.host) (g.H.Outside.world c.take_some-2.new.host) c.take_some-2.ensures.talks))
    (c.end-then-n-eq0-2.ensures.write_fault same)

pub returns-clause-played : goal.returns-clause-played
returns-clause-played g c = λ m stands rests none.
    let within : c.in-Ok-take_some.n ≤ length c.take_some-2.new.piece = omega (arith, c.in-Ok-take_some.ensures.bound) in
    let one : length (take c.in-Ok-take_some.n c.take_some-2.new.piece) ≡ 1 =
    length-take-le c.in-Ok-take_some.n c.take_some-2.new.piece within ∙ one_of c.in-Ok-take_some.n c.in-Ok-take_some.ensures.bound c.if-n-eq0-2.false in
    let full : c.loop-taken.taken ≡ most_input = omega arith in
    stops_long m stands.answered c.loop-taken.player.system c.loop-taken.player.front.items c.loop-taken.taken (g.H.Outside.world c.args.host.now) (g.H.Outside.world c.loop-taken.host)
    (c.loop-taken.invariant.playing m stands rests none)
    (take c.in-Ok-take_some.n c.take_some-2.new.piece) (g.H.Outside.world c.take_some-2.new.host)
    (took_some c.in-Ok-take_some.n c.take_some-2.new.piece (g.H.Outside.world c.loop-taken.host) (g.H.Outside.world c.take_some-2.new.host) c.if-n-eq0-2.false within c.take_some-2.ensures.talks c.take_some-2.ensures.silent c.in-Ok-take_some.ensures.taken c.in-Ok-take_some.ensures.ended)
    one full
