use Rattle.std.proofs.Common.{zero, suc, codes, refl, lit<, lit≤}
use Rattle.std.specs.Str.{IsAscii}
use Rattle.std.proofs.lemmas.Str.{IsUtf8-from_ascii}
use Rattle.odb_values.specs.Text.{IsText}
use Rattle.odb_check.proofs.found.kv_name.Goals as goal

kv_is_ascii : IsAscii (codes "KV")
kv_is_ascii zero = lit< tt
kv_is_ascii (suc zero) = lit< tt
kv_is_ascii (suc (suc i)) = lit< tt

kv_is_text : IsText (codes "KV")
kv_is_text = record { utf8 = IsUtf8-from_ascii (codes "KV") kv_is_ascii; plain = refl; short = lit≤ tt }

pub unwrap-requires : goal.unwrap-requires
unwrap-requires c = c.in_ok-from_str.ensures.text.1 kv_is_text
