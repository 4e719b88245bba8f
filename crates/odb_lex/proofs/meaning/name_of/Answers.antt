use Rattle.std.proofs.lemmas.Str.{IsUtf8-from_ascii}
use Rattle.odb_lex.proofs.Stretches.{name_ascii}
use Rattle.odb_lex.proofs.meaning.name_of.Goals as goal

pub utf8-requires : goal.utf8-requires
utf8-requires c = IsUtf8-from_ascii c.args.token.now (name_ascii c.args.token.now c.requires.rest)
