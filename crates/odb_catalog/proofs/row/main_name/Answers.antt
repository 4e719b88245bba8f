use Rattle.odb_catalog.proofs.Texts.{main_is_text}
use Rattle.odb_catalog.proofs.row.main_name.Goals as goal

pub unwrap-requires : goal.unwrap-requires
unwrap-requires c = c.in_ok-from_str.ensures.text.1 main_is_text
