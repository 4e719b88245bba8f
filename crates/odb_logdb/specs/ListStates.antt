-- What is known of the list of a log that was just opened.
use Rattle.std.specs.Prelude.{◌==◌, if◌then◌else◌}
use Rattle.odb_logdb.specs.declared.fields.LogFields.{LogFields}
use Rattle.odb_logdb.specs.declared.state.ListState.{ListState}
use Rattle.odb_logdb.specs.declared.state.ListState.TheVariants.{Known, Dirty}
use Rattle.odb_logdb.specs.Fields.{DIRTY}

abbrev pub list_state : LogFields → ListState
list_state f = if f.state == DIRTY then Dirty else Known
