-- The texts of replies.
use Rattle.std.specs.Prelude.{ℕ, List, [], ◌∷◌, ◌++◌, length, codes, flat_map, Option, Some, None}
use Rattle.std.specs.Fmt.{decimal}
use Rattle.odb_values.specs.declared.value.Value.{Value}
use Rattle.odb_model.specs.declared.numbers.TheConstants.{LF}
use Rattle.odb_model.specs.declared.reply.Head.{Head}
use Rattle.odb_model.specs.declared.reply.Head.TheVariants.{Session, Control, Unknown}
use Rattle.odb_model.specs.declared.reply.Reply.{Reply}
use Rattle.odb_model.specs.declared.reply.Reply.TheVariants.{Okay, Rows, Done, Committed, Ended, InDoubt, Bodies, Gates, Mark, Logged, Turned, Cleaned, Copying, Copied, LogFirst, Opened, State, Character, Text as TextReply, Number, Syntax, End, Long, Line, NoSession, NotYet, NoTransaction, InTransaction, NoTable, NoBank, NameTaken, NotEmpty, NoCopyLeft, NoNumberLeft, NoShadow, NoBackup, Fixed, NoColumn, KindMismatch, KeyColumn, ColumnCount, Duplicate, NullNotAllowed, TooLong, KeyTooWide, RowTooWide, TooManyWrites, Overflow, Halted, Aged, Conflict, HistoryFull, Full, Fault, NotClean, Held, LogFull, Needed, NotHeld, Phase, NoFile, Limit, Memory}
use Rattle.odb_model.specs.declared.side.OtherSide.{OtherSide}
use Rattle.odb_model.specs.declared.side.OtherSide.TheVariants.{Live, Dirty, Clean}
use Rattle.odb_model.specs.declared.phase.CopyPhase.{CopyPhase}
use Rattle.odb_model.specs.declared.phase.CopyPhase.TheVariants as phase
use Rattle.odb_model.specs.declared.phase.LogSpan.{LogSpan}
use Rattle.odb_model.specs.declared.phase.CopyLine.{CopyLine}
use Rattle.odb_model.specs.declared.phase.StateReply.{StateReply}
use Rattle.odb_model.specs.Canonical.{value_text}

abbrev pub head_text : Head → List ℕ
head_text (Session s) = decimal s
head_text Control = codes "!"
head_text Unknown = codes "?"

-- a reply line: whom it names, a space, its words and LF
abbrev pub line_of : Head → List ℕ → List ℕ
line_of head words = head_text head ++ codes " " ++ words ++ LF ∷ []

-- values with a comma between two
abbrev pub values_text : List Value → List ℕ
values_text [] = []
values_text (v ∷ []) = value_text v
values_text (v ∷ w ∷ values) = value_text v ++ codes "," ++ values_text (w ∷ values)

abbrev pub row_line : Head → List Value → List ℕ
row_line head values = line_of head (codes "ROW " ++ values_text values)

abbrev pub refused_line : Head → List ℕ → List ℕ
refused_line head words = line_of head (codes "REFUSED " ++ words)

-- the words of a reply that tells two numbers behind its name
abbrev pub two_numbers : List ℕ → ℕ → ℕ → List ℕ
two_numbers name a b = name ++ codes " " ++ decimal a ++ codes " " ++ decimal b

abbrev pub phase_text : CopyPhase → List ℕ
phase_text phase.Idle = codes "IDLE"
phase_text phase.Bodies = codes "BODIES"
phase_text phase.Gates = codes "GATES"
phase_text phase.Source = codes "SOURCE"
phase_text phase.Blank = codes "BLANK"
phase_text phase.Filling = codes "FILLING"
phase_text phase.Copied = codes "COPIED"
phase_text phase.Resting = codes "RESTING"
phase_text phase.Out = codes "OUT"

abbrev pub side_text : OtherSide → List ℕ
side_text Live = codes "LIVE"
side_text Dirty = codes "DIRTY"
side_text Clean = codes "CLEAN"

-- a dash where no mark is told
abbrev pub mark_text : Option ℕ → List ℕ
mark_text None = codes "-"
mark_text (Some mark) = decimal mark

abbrev pub log_words : Option LogSpan → List ℕ
log_words None = codes "LOGDB OUT"
log_words (Some span) = two_numbers (codes "LOGDB") span.first span.last

-- what STATE tells of one copy
abbrev pub copy_words : CopyLine → List ℕ
copy_words c =
    codes "FILE " ++ decimal c.file ++ codes " BANK " ++ decimal c.bank
    ++ codes " MARK " ++ mark_text c.mark ++ codes " " ++ phase_text c.phase

-- a line for each copy
abbrev pub copies_lines : Head → List CopyLine → List ℕ
copies_lines head copies = flat_map (λ c. line_of head (copy_words c)) copies

-- of TRANSDB: the active side, the state of the other one, and the number of the first entry held
abbrev pub sides_words : StateReply → List ℕ
sides_words s =
    codes "TRANSDB " ++ decimal s.active ++ codes " " ++ side_text s.other
    ++ codes " " ++ decimal s.first

-- what STATE tells: a line for the history, one for TRANSDB, one for LOGDB, and one for each copy
abbrev pub state_text : Head → StateReply → List ℕ
state_text head s =
    line_of head (codes "NUMBER " ++ decimal s.number) ++ line_of head (sides_words s)
    ++ line_of head (log_words s.log) ++ copies_lines head s.copies

-- the bytes that answer a line
abbrev pub reply_text : Head → Reply → List ℕ
reply_text head Okay = line_of head (codes "OK")
reply_text head (Rows rows) =
    flat_map (row_line head) rows ++ line_of head (codes "ROWS " ++ decimal (length rows))
reply_text head (Done n) = line_of head (codes "DONE " ++ decimal n)
reply_text head (Committed k) = line_of head (codes "COMMITTED " ++ decimal k)
reply_text head (Ended p) = line_of head (codes "ENDED " ++ decimal p)
reply_text head (InDoubt k) = line_of head (codes "INDOUBT " ++ decimal k)
reply_text head (Bodies file number) = line_of head (two_numbers (codes "BODIES") file number)
reply_text head (Gates file number) = line_of head (two_numbers (codes "GATES") file number)
reply_text head (Mark file number) = line_of head (two_numbers (codes "MARK") file number)
reply_text head (Logged number) = line_of head (codes "LOGGED " ++ decimal number)
reply_text head (Turned side first) = line_of head (two_numbers (codes "TURNED") side first)
reply_text head Cleaned = line_of head (codes "CLEANED")
reply_text head (Copying file left) = line_of head (two_numbers (codes "COPYING") file left)
reply_text head (Copied file mark) = line_of head (two_numbers (codes "COPIED") file mark)
reply_text head (LogFirst number) = line_of head (codes "LOGFIRST " ++ decimal number)
reply_text head (Opened number) = line_of head (codes "OPENED " ++ decimal number)
reply_text head (State state) = state_text head state
reply_text head (Character at) = refused_line head (codes "CHARACTER " ++ decimal at)
reply_text head (TextReply at) = refused_line head (codes "TEXT " ++ decimal at)
reply_text head (Number at) = refused_line head (codes "NUMBER " ++ decimal at)
reply_text head (Syntax at) = refused_line head (codes "SYNTAX " ++ decimal at)
reply_text head End = refused_line head (codes "END")
reply_text head Long = refused_line head (codes "LONG")
reply_text head Line = refused_line head (codes "LINE")
reply_text head NoSession = refused_line head (codes "NOSESSION")
reply_text head NotYet = refused_line head (codes "NOTYET")
reply_text head NoTransaction = refused_line head (codes "NOTRANSACTION")
reply_text head InTransaction = refused_line head (codes "INTRANSACTION")
reply_text head NoTable = refused_line head (codes "NOTABLE")
reply_text head NoBank = refused_line head (codes "NOBANK")
reply_text head NameTaken = refused_line head (codes "NAMETAKEN")
reply_text head NotEmpty = refused_line head (codes "NOTEMPTY")
reply_text head NoCopyLeft = refused_line head (codes "NOCOPYLEFT")
reply_text head NoShadow = refused_line head (codes "NOSHADOW")
reply_text head NoBackup = refused_line head (codes "NOBACKUP")
reply_text head NoNumberLeft = refused_line head (codes "NONUMBERLEFT")
reply_text head Fixed = refused_line head (codes "FIXED")
reply_text head NoColumn = refused_line head (codes "NOCOLUMN")
reply_text head KindMismatch = refused_line head (codes "KINDMISMATCH")
reply_text head KeyColumn = refused_line head (codes "KEYCOLUMN")
reply_text head ColumnCount = refused_line head (codes "COLUMNCOUNT")
reply_text head Duplicate = refused_line head (codes "DUPLICATE")
reply_text head NullNotAllowed = refused_line head (codes "NULLNOTALLOWED")
reply_text head TooLong = refused_line head (codes "TOOLONG")
reply_text head KeyTooWide = refused_line head (codes "KEYTOOWIDE")
reply_text head RowTooWide = refused_line head (codes "ROWTOOWIDE")
reply_text head TooManyWrites = refused_line head (codes "TOOMANYWRITES")
reply_text head Overflow = refused_line head (codes "OVERFLOW")
reply_text head (Halted k) = refused_line head (codes "HALTED " ++ decimal k)
reply_text head (Aged oldest start) =
    refused_line head (codes "AGED " ++ decimal oldest ++ codes " " ++ decimal start)
reply_text head (Conflict j) = refused_line head (codes "CONFLICT " ++ decimal j)
reply_text head HistoryFull = refused_line head (codes "HISTORYFULL")
reply_text head (Full need room) =
    refused_line head (codes "FULL " ++ decimal need ++ codes " " ++ decimal room)
reply_text head (Fault f) = refused_line head (codes "FAULT " ++ decimal f)
reply_text head NotClean = refused_line head (codes "NOTCLEAN")
reply_text head (Held mark last) = refused_line head (two_numbers (codes "HELD") mark last)
reply_text head (LogFull need room) = refused_line head (two_numbers (codes "LOGFULL") need room)
reply_text head (Needed mark) = refused_line head (codes "NEEDED " ++ decimal mark)
reply_text head (NotHeld mark first) = refused_line head (two_numbers (codes "NOTHELD") mark first)
reply_text head (Phase file name) =
    refused_line head (codes "PHASE " ++ decimal file ++ codes " " ++ phase_text name)
reply_text head (NoFile file) = refused_line head (codes "NOFILE " ++ decimal file)
reply_text head (Limit file) = refused_line head (codes "LIMIT " ++ decimal file)
reply_text head Memory = refused_line head (codes "MEMORY")
