-- A link in memory, as proofs see it, and what its calls make of it.
use Rattle.std.specs.Prelude.{◌≡◌, ℕ, ◌+◌, Bool, false, if◌then◌else◌, ◌==◌, ◌||◌, nat_lt, List, [], ◌∷◌, ◌++◌, length, take, drop, Some, Result, IfOk}
use Rattle.std.specs.List.{list_any}
use Rattle.odb_device.specs.Connections.{Wire}
use Rattle.odb_memstore.specs.Recording.{one_more}

-- All that there is to receive, how much of it was received, and whether 0 was answered; the bytes
-- sent, and how many there may be; the numbers of the calls that are to fail, how many calls were
-- made, and how many failed.
pub record Line : Type 0 where
  pub input : List ℕ
  pub received : ℕ
  pub has_ended : Bool
  pub sent : List ℕ
  pub room : ℕ
  pub failing : List ℕ
  pub calls : ℕ
  pub faults : ℕ

-- a link to which nothing was called yet
abbrev pub new_line : List ℕ → ℕ → Line
new_line input room = record {
  input = input;
  received = 0;
  has_ended = false;
  sent = [];
  room = room;
  failing = [];
  calls = 0;
  faults = 0;
}

-- what it shows: all is told
abbrev pub wire_of : Line → Wire
wire_of line = record {
  received = Some (take line.received line.input);
  sent = Some line.sent;
  has_ended = line.has_ended;
  faults = line.faults;
}

-- this call is listed too
abbrev pub with_listed : ℕ → Line → Line
with_listed call line = record line { failing = line.failing ++ call ∷ [] }

-- the number of the next call is listed
abbrev pub is_next_listed : Line → Bool
is_next_listed line = list_any (λ n. n == line.calls) line.failing

-- n more bytes are to fail, or there is no room for them
abbrev pub fails_to_send : ℕ → Line → Bool
fails_to_send n line = is_next_listed line || nat_lt line.room (length line.sent + n)

-- one call more, which failed
abbrev pub failed : Line → Line
failed line = record line { calls = one_more line.calls; faults = one_more line.faults }

-- the bytes that a `receive` of at most so many gives
abbrev pub next_received : ℕ → Line → List ℕ
next_received most line = take most (drop line.received line.input)

-- what a `receive` of at most so many bytes makes of the link
abbrev pub after_receive : ℕ → Line → Line
after_receive most line =
    let n = length (next_received most line) in
    if is_next_listed line then failed line
    else record line {
      received = line.received + n;
      has_ended = (n == 0) || line.has_ended;
      calls = one_more line.calls;
    }

-- what a `send` makes of it
abbrev pub after_send : List ℕ → Line → Line
after_send bytes line =
    if fails_to_send (length bytes) line then failed line
    else record line { sent = line.sent ++ bytes; calls = one_more line.calls }

-- a `receive` into `out`, of at most so many bytes: what it gives are the next bytes of the input,
-- and this is what it makes of the link
pub record ReceivesNext {E : Type 0} (most : ℕ) (out : List ℕ) (result : Result ℕ E)
    (old new : Line) : Type 0 where
  pub bytes : IfOk result (λ n. take n out ≡ next_received most old)
  pub next : new ≡ after_receive most old
