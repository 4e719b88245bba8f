-- What a walk over a region keeps that collects the payloads.
use Rattle.std.proofs.Common.{◌≡◌, ℕ, ◌+◌, ◌-◌, ◌≤◌, List, [], ◌∷◌, ◌++◌, length, length-append, Option, Some, None, sym, ◌∙◌, ap, subst, arith}
use Rattle.std.specs.Prelude.{IfSome, option_map}
use Rattle.odb_device.specs.World.{File, World, file_of}
use Rattle.odb_device.specs.Images.{part}
use Rattle.odb_device.specs.Moments.{Runs}
use Rattle.odb_device.proofs.Time.{run_end}
use Rattle.odb_reclog.specs.Records.{HEAD, end_of_list}
use Rattle.odb_reclog.specs.Reading.{next_at}
use Rattle.odb_reclog.specs.Windows.{Shows}
use Rattle.odb_reclog.specs.declared.record.LogRecord.{LogRecord}
use Rattle.odb_reclog.specs.declared.window.Window.{Window}
use Rattle.odb_reclog.proofs.Collecting.{Collected, collected_more}
use Rattle.odb_reclog.proofs.Records.{end_more}
use Rattle.odb_device.proofs.Time.{reads_then}

-- these payloads were collected up to a place
pub record Gathered (file start end first : ℕ) (old new : World) (window : Window) (payloads : List (List ℕ)) (place number : ℕ) : Type 0 where
  pub run : Runs file (λ f. f ≡ file_of file old) old new
  pub shows : Shows window (file_of file old)
  pub list : IfSome (file_of file old) (λ f. Collected start end first f.bytes payloads place number)
  pub ends : end_of_list start payloads ≡ place
  pub counts : first + length payloads ≡ number
  pub from : start ≤ place
  pub to : place ≤ end
  pub count : number + start ≤ first + place

collected_then : (o : Option File) (start end first : ℕ) (payloads : List (List ℕ)) (place number : ℕ) (found : Option LogRecord) (r : LogRecord) → found ≡ Some r
    → r.next ≡ place + 13 + length r.payload → r.next ≤ end
    → IfSome o (λ f. option_map (λ r. r.next) found ≡ next_at end number place f.bytes)
    → IfSome o (λ f. IfSome found (λ r. r.payload ≡ part (place + 13) (r.next - (place + 13)) f.bytes))
    → IfSome o (λ f. Collected start end first f.bytes payloads place number)
    → IfSome o (λ f. Collected start end first f.bytes (payloads ++ r.payload ∷ []) r.next (number + 1))
collected_then None start end first payloads place number found r is size within next payload so_far = tt
collected_then (Some f) start end first payloads place number found r is size within next payload so_far =
    collected_more start end first f.bytes payloads r.payload place number r.next so_far
    (sym (ap (option_map (λ r. r.next)) is) ∙ next) (omega (arith, size)) within
    (subst (λ (o : Option LogRecord). IfSome o (λ r. r.payload ≡ part (place + 13) (r.next - (place + 13)) f.bytes)) is payload)

-- one record more
pub gather_more : (file start end first : ℕ) (w w1 w2 : World) (window after : Window) (payloads now : List (List ℕ)) (place number : ℕ) (found : Option LogRecord) (r : LogRecord)
    → Gathered file start end first w w1 window payloads place number → now ≡ payloads ++ r.payload ∷ []
    → Runs file (λ f. f ≡ file_of file w1) w1 w2 → Shows after (file_of file w1)
    → IfSome (file_of file w1) (λ f. option_map (λ r. r.next) found ≡ next_at end number place f.bytes)
    → IfSome (file_of file w1) (λ f. IfSome found (λ r. r.payload ≡ part (place + 13) (r.next - (place + 13)) f.bytes))
    → IfSome found (λ r. (r.next ≡ place + 13 + length r.payload) × (r.next ≤ end)) → found ≡ Some r
    → Gathered file start end first w w2 after now r.next (number + 1)
gather_more file start end first w w1 w2 window after payloads now place number found r so_far now_is run shows next payload forward is =
    let same : file_of file w1 ≡ file_of file w = run_end file (λ f. f ≡ file_of file w) w w1 so_far.run in
    let ahead : (r.next ≡ place + 13 + length r.payload) × (r.next ≤ end) =
    subst (λ (o : Option LogRecord). IfSome o (λ r. (r.next ≡ place + 13 + length r.payload) × (r.next ≤ end))) is forward in
    subst (λ (l : List (List ℕ)). Gathered file start end first w w2 after l r.next (number + 1)) (sym now_is) (record {
      run = reads_then file w w1 w2 so_far.run run;
      shows = subst (Shows after) same shows;
      list = collected_then (file_of file w) start end first payloads place number found r is ahead.0 ahead.1
          (subst (λ (o : Option File). IfSome o (λ f. option_map (λ r. r.next) found ≡ next_at end number place f.bytes)) same next)
          (subst (λ (o : Option File). IfSome o (λ f. IfSome found (λ r. r.payload ≡ part (place + 13) (r.next - (place + 13)) f.bytes))) same payload) so_far.list;
      ends = end_more start payloads r.payload ∙ ap (λ (p : ℕ). p + HEAD + length r.payload) so_far.ends ∙ sym ahead.0;
      counts = omega (arith, so_far.counts, length-append payloads (r.payload ∷ []));
      from = omega (arith, so_far.from, ahead.0);
      to = ahead.1;
      count = omega (arith, so_far.count, ahead.0);
    })
