-- How a line that asks for no event is answered.
use Rattle.odb_model.specs.declared.reply.Head.{Head}
use Rattle.odb_model.specs.declared.reply.Head.TheVariants.{Session}
use Rattle.odb_model.specs.declared.reply.Reply.{Reply}
use Rattle.odb_model.specs.declared.reply.Reply.TheVariants as reply
use Rattle.odb_parse.specs.declared.error.ParseError.{ParseError}
use Rattle.odb_parse.specs.declared.error.ParseError.TheVariants.{BadCharacter, OpenText, NumberTooWide, Unexpected, End, NoMemory}
use Rattle.odb_play.specs.declared.refusal.LineRefusal.{LineRefusal}
use Rattle.odb_play.specs.declared.refusal.LineRefusal.TheVariants.{Line, NoSession, Long, Text}

-- whom the answer names
abbrev pub head_of : LineRefusal → Head
head_of (Line head) = head
head_of (NoSession s) = Session s
head_of (Long s) = Session s
head_of (Text s error) = Session s

-- the answer to a text that is refused so
abbrev pub text_reply : ParseError → Reply
text_reply (BadCharacter at) = reply.Character at
text_reply (OpenText at) = reply.Text at
text_reply (NumberTooWide at) = reply.Number at
text_reply (Unexpected at) = reply.Syntax at
text_reply End = reply.End
text_reply NoMemory = reply.Memory

-- the answer
abbrev pub reply_of : LineRefusal → Reply
reply_of (Line head) = reply.Line
reply_of (NoSession s) = reply.NoSession
reply_of (Long s) = reply.Long
reply_of (Text s error) = text_reply error
