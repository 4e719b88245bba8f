-- What a walk over a region keeps.
use Rattle.std.proofs.Common.{◌≡◌, ℕ, ◌+◌, ◌≤◌, List, length, Option, Some, None, refl, sym, ◌∙◌, subst, arith}
use Rattle.std.specs.Prelude.{IfSome}
use Rattle.odb_device.specs.World.{File, World, file_of}
use Rattle.odb_device.specs.Moments.{Runs}
use Rattle.odb_device.proofs.Time.{begins, run_end, reads_then}
use Rattle.odb_reclog.specs.Records.{log_of, end_of_list}
use Rattle.odb_reclog.specs.Reading.{next_at}
use Rattle.odb_reclog.specs.Windows.{Shows}
use Rattle.odb_reclog.specs.declared.window.Window.{Window}
use Rattle.odb_reclog.proofs.Leading.{next_some, end_more, count_more}

-- the list from the start on ends where that from the place on does
pub record GoesOn (start end first place number : ℕ) (bytes : List ℕ) : Type 0 where
  pub place_same : end_of_list start (log_of start end first bytes) ≡ end_of_list place (log_of place end number bytes)
  pub number_same : first + length (log_of start end first bytes) ≡ number + length (log_of place end number bytes)

pub record Walked (file start end first : ℕ) (old new : World) (window : Window) (place number : ℕ) : Type 0 where
  pub run : Runs file (λ f. f ≡ file_of file old) old new
  pub shows : Shows window (file_of file old)
  pub goes_on : IfSome (file_of file old) (λ f. GoesOn start end first place number f.bytes)
  pub from : start ≤ place
  pub to : place ≤ end
  pub count : number + start ≤ first + place

goes_step : (o : Option File) (start end first place number next : ℕ) → IfSome o (λ f. end ≤ length f.bytes)
    → IfSome o (λ f. Some next ≡ next_at end number place f.bytes)
    → IfSome o (λ f. GoesOn start end first place number f.bytes) → IfSome o (λ f. GoesOn start end first next (number + 1) f.bytes)
goes_step None start end first place number next long is goes = tt
goes_step (Some f) start end first place number next long is goes =
    let s = next_some end number place next f.bytes is in
    subst (λ (p : ℕ). GoesOn start end first p (number + 1) f.bytes) (sym s.1) (record {
      place_same = goes.place_same ∙ end_more end f.bytes long number place s.0;
      number_same = goes.number_same ∙ count_more end f.bytes long number place s.0;
    })

pub walk_begins : (file start end first : ℕ) (w : World) (window : Window) → start ≤ end → ((file : Option File) → Shows window file)
    → Walked file start end first w w window start first
walk_begins file start end first w window within shows = record {
  run = begins file (λ f. f ≡ file_of file w) w refl;
  shows = shows (file_of file w);
  goes_on = each (file_of file w);
  from = omega arith;
  to = within;
  count = omega arith;
}
  where
    each : (o : Option File) → IfSome o (λ f. GoesOn start end first start first f.bytes)
    each None = tt
    each (Some f) = record { place_same = refl; number_same = refl }

-- one record more
pub walk_goes_on : (file start end first : ℕ) (w w1 w2 : World) (window after : Window) (place number next : ℕ) (found : Option ℕ)
    → Walked file start end first w w1 window place number
    → IfSome (file_of file w) (λ f. end ≤ length f.bytes) → Runs file (λ f. f ≡ file_of file w1) w1 w2 → Shows after (file_of file w1)
    → IfSome (file_of file w1) (λ f. found ≡ next_at end number place f.bytes) → IfSome found (λ n. (place + 13 ≤ n) × (n ≤ end))
    → found ≡ Some next
    → Walked file start end first w w2 after next (number + 1)
walk_goes_on file start end first w w1 w2 window after place number next found so_far long run shows is forward is_some =
    let same : file_of file w1 ≡ file_of file w = run_end file (λ f. f ≡ file_of file w) w w1 so_far.run in
    let ahead : (place + 13 ≤ next) × (next ≤ end) =
    subst (λ (o : Option ℕ). IfSome o (λ n. (place + 13 ≤ n) × (n ≤ end))) is_some forward in
    let is_next : IfSome (file_of file w) (λ f. Some next ≡ next_at end number place f.bytes) =
    subst (λ (o : Option ℕ). IfSome (file_of file w) (λ f. o ≡ next_at end number place f.bytes)) is_some
    (subst (λ o. IfSome o (λ f. found ≡ next_at end number place f.bytes)) same is) in
    record {
      run = reads_then file w w1 w2 so_far.run run;
      shows = subst (Shows after) same shows;
      goes_on = goes_step (file_of file w) start end first place number next long is_next so_far.goes_on;
      from = omega (arith, so_far.from, ahead.0);
      to = ahead.1;
      count = omega (arith, so_far.count, ahead.0);
    }
