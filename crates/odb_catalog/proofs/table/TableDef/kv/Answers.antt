use Rattle.std.proofs.Common.{zero, suc, codes, refl, lit<, lit≤}
use Rattle.std.specs.Str.{IsAscii}
use Rattle.std.proofs.lemmas.Str.{IsUtf8-from_ascii}
use Rattle.odb_values.specs.Text.{IsText}
use Rattle.odb_catalog.proofs.table.TableDef.kv.Goals as goal

key_is_ascii : IsAscii (codes "K")
key_is_ascii zero = lit< tt
key_is_ascii (suc i) = lit< tt

value_is_ascii : IsAscii (codes "V")
value_is_ascii zero = lit< tt
value_is_ascii (suc i) = lit< tt

key_is_text : IsText (codes "K")
key_is_text = record { utf8 = IsUtf8-from_ascii (codes "K") key_is_ascii; plain = refl; short = lit≤ tt }

value_is_text : IsText (codes "V")
value_is_text = record { utf8 = IsUtf8-from_ascii (codes "V") value_is_ascii; plain = refl; short = lit≤ tt }

pub unwrap-key-requires : goal.unwrap-key-requires
unwrap-key-requires c = c.in_ok-from_str.ensures.text.1 key_is_text

pub unwrap-value-requires : goal.unwrap-value-requires
unwrap-value-requires c = c.in_ok-from_str-2.ensures.text.1 value_is_text
