-- The names that the dictionary has of itself are texts.
use Rattle.std.proofs.Common.{zero, suc, codes, refl, lit<, lit≤}
use Rattle.std.specs.Str.{IsAscii}
use Rattle.std.proofs.lemmas.Str.{IsUtf8-from_ascii}
use Rattle.odb_values.specs.Text.{IsText}

main_is_ascii : IsAscii (codes "MAIN")
main_is_ascii zero = lit< tt
main_is_ascii (suc zero) = lit< tt
main_is_ascii (suc (suc zero)) = lit< tt
main_is_ascii (suc (suc (suc zero))) = lit< tt
main_is_ascii (suc (suc (suc (suc i)))) = lit< tt

next_is_ascii : IsAscii (codes "NEXT")
next_is_ascii zero = lit< tt
next_is_ascii (suc zero) = lit< tt
next_is_ascii (suc (suc zero)) = lit< tt
next_is_ascii (suc (suc (suc zero))) = lit< tt
next_is_ascii (suc (suc (suc (suc i)))) = lit< tt

pub main_is_text : IsText (codes "MAIN")
main_is_text = record { utf8 = IsUtf8-from_ascii (codes "MAIN") main_is_ascii; plain = refl; short = lit≤ tt }

pub next_is_text : IsText (codes "NEXT")
next_is_text = record { utf8 = IsUtf8-from_ascii (codes "NEXT") next_is_ascii; plain = refl; short = lit≤ tt }
