-- The log that the fields of a `RecLog` are.
use Rattle.odb_reclog.specs.declared.log.RecLog.TheInside.{Inside}
use Rattle.odb_reclog.specs.Standing.{Log}

abbrev pub log_in : Inside → Log
log_in l = record {
  file = l.file;
  start = l.start;
  end = l.end;
  first = l.first;
  place = l.place;
  next = l.next;
  clear_from = l.clear_from;
  touched = l.touched;
  has_body = l.has_body;
  in_doubt = l.in_doubt;
}
