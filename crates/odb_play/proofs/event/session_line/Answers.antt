use Rattle.odb_play.proofs.Texts.{no_session_line}
use Rattle.odb_play.proofs.event.session_line.Goals as goal

pub returns-in_err-text-clause-none : goal.returns-in_err-text-clause-none
returns-in_err-text-clause-none c =
    rw c.from_residual-in_err-text.ensures
    (no_session_line c.args.line.now c.in_ok-session.session c.in_ok-session.rest.now c.in_ok-session.ensures.found c.in_err-text.ensures.none)
