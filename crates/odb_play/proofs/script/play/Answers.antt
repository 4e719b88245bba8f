use Rattle.odb_play.specs.Started.{machine_of}
use Rattle.odb_play.proofs.Starting.{rests_started, played_from, outcome_played, outcome_refused, opening_played, no_file_fault}
use Rattle.odb_play.proofs.script.play.Goals as goal

pub returns-in-Ok-clause-played : goal.returns-in-Ok-clause-played
returns-in-Ok-clause-played g c =
    let held = c.in-Ok.ready.player.system in
    let played = c.play_on.ensures.played (machine_of held c.in-Ok.ensures.started.entries) c.in-Ok.ensures.started.stands (rests_started held (g.H.Outside.world c.args.host.now) (g.H.Outside.world c.open_player.new.host) c.in-Ok.ensures.started) c.in-Ok.ensures.front in
    outcome_played c.play_on.result (g.H.Outside.world c.args.host.now) (g.H.Outside.world c.play_on.new.host)
    (played_from held c.play_on.result (g.H.Outside.world c.args.host.now) (g.H.Outside.world c.open_player.new.host) (g.H.Outside.world c.play_on.new.host)
    c.open_player.ensures.run c.open_player.ensures.bytes (g.met.H.Store.reads_image c.args.host.now 0) c.in-Ok.ensures.started played)

pub returns-in-Ok-clause-opened : goal.returns-in-Ok-clause-opened
returns-in-Ok-clause-opened g c =
    let held = c.in-Ok.ready.player.system in
    let played = c.play_on.ensures.played (machine_of held c.in-Ok.ensures.started.entries) c.in-Ok.ensures.started.stands (rests_started held (g.H.Outside.world c.args.host.now) (g.H.Outside.world c.open_player.new.host) c.in-Ok.ensures.started) c.in-Ok.ensures.front in
    opening_played held (machine_of held c.in-Ok.ensures.started.entries) c.play_on.result
    (g.H.Outside.world c.args.host.now) (g.H.Outside.world c.open_player.new.host) (g.H.Outside.world c.play_on.new.host) c.in-Ok.ensures.started played.played

pub returns-in-Ok-clause-file_fault : goal.returns-in-Ok-clause-file_fault
returns-in-Ok-clause-file_fault g c = λ file same.
    let held = c.in-Ok.ready.player.system in
    let played = c.play_on.ensures.played (machine_of held c.in-Ok.ensures.started.entries) c.in-Ok.ensures.started.stands (rests_started held (g.H.Outside.world c.args.host.now) (g.H.Outside.world c.open_player.new.host) c.in-Ok.ensures.started) c.in-Ok.ensures.front in
    absurd (no_file_fault (machine_of held c.in-Ok.ensures.started.entries) c.play_on.result file (g.H.Outside.world c.open_player.new.host) (g.H.Outside.world c.play_on.new.host) played.played same)

pub returns-in-Err-clause-played : goal.returns-in-Err-clause-played
returns-in-Err-clause-played g c =
    outcome_refused c.in-Err.status (g.H.Outside.world c.args.host.now) (g.H.Outside.world c.open_player.new.host) c.in-Err.ensures.refusal c.in-Err.ensures.refused
