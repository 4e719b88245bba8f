-- The record of the calls made.
use Rattle.std.specs.Prelude.{ℕ, ◌+◌, ◌-◌, ◌^◌, Bool, true, false, if◌then◌else◌, ◌==◌, ◌||◌, nat_le, nat_lt, List, [], ◌∷◌, ◌++◌, length}
use Rattle.std.specs.List.{list_any}
use Rattle.odb_memstore.specs.declared.recorder.Call.{Call}
use Rattle.odb_memstore.specs.declared.recorder.Call.TheVariants.{Look, Write, Sync, Take, Say}
use Rattle.odb_memstore.specs.declared.recorder.Recorded.{Recorded}
use Rattle.odb_memstore.specs.declared.recorder.Refused.{Refused}

-- how many places there are, the numbers of the calls that are to fail, the calls from number 0 on,
-- and how many aren't recorded: those that found no place, and each `say` that found no room
pub record Recording : Type 0 where
  pub places : ℕ
  pub failing : List ℕ
  pub calls : List Recorded
  pub refused : Refused

-- nothing was called yet
abbrev pub no_calls : ℕ → Recording
no_calls places = record {
  places = places;
  failing = [];
  calls = [];
  refused = record { store = 0; take = 0; say = 0 };
}

-- how many places are left
abbrev pub places_left : Recording → ℕ
places_left r = r.places - length r.calls

-- no place is left
abbrev pub is_full : Recording → Bool
is_full r = nat_le r.places (length r.calls)

-- this call is listed too
abbrev pub with_listed : ℕ → Recording → Recording
with_listed call r = record r { failing = r.failing ++ call ∷ [] }

-- the number of the next call is listed
abbrev pub is_listed : Recording → Bool
is_listed r = list_any (λ n. n == length r.calls) r.failing

-- the next call fails, where it needs no room
abbrev pub fails : Recording → Bool
fails r = is_full r || is_listed r

-- one more; at the end of its type a count stands still
abbrev pub one_more : ℕ → ℕ
one_more n = if nat_lt n (2 ^ 64 - 1) then n + 1 else n

-- one more call of this kind that isn't recorded
abbrev pub counted : Call → Refused → Refused
counted Take r = record r { take = one_more r.take }
counted (Say len) r = record r { say = one_more r.say }
counted (Look file) r = record r { store = one_more r.store }
counted (Write file at from len) r = record r { store = one_more r.store }
counted (Sync file) r = record r { store = one_more r.store }

-- the call isn't recorded, only counted
abbrev pub refused : Call → Recording → Recording
refused call r = record r { refused = counted call r.refused }

-- the call is recorded, and whether it failed
abbrev pub noted_as : Bool → Call → Recording → Recording
noted_as failed call r =
    record r { calls = r.calls ++ (record { call = call; failed = failed }) ∷ [] }

-- the call is recorded, and fails where it is listed
abbrev pub noted : Call → Recording → Recording
noted call r = noted_as (is_listed r) call r

-- a write of the file that finds no room is recorded where a place is left, as a look that failed
abbrev pub past_write : ℕ → Recording → Recording
past_write file r =
    if is_full r then refused (Look file) r else noted_as true (Look file) r

-- a call that needs no room is recorded where a place is left
abbrev pub asked : Call → Recording → Recording
asked call r = if is_full r then refused call r else noted call r

-- the call is on this file
abbrev pub is_on : ℕ → Call → Bool
is_on file (Look of) = of == file
is_on file (Write of at from len) = of == file
is_on file (Sync of) = of == file
is_on file Take = false
is_on file (Say len) = false

-- a call on this file counts as a mere look
abbrev pub forgotten : ℕ → Recorded → Recorded
forgotten file c = if is_on file c.call then record c { call = Look file } else c
