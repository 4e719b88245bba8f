use Rattle.odb_catalog.proofs.Texts.{next_is_text}
use Rattle.odb_catalog.proofs.row.number_name.Goals as goal

pub unwrap-requires : goal.unwrap-requires
unwrap-requires c = c.in_ok-from_str.ensures.text.1 next_is_text
