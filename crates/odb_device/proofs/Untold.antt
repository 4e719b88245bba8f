-- The calls of a host that tells no content.
use Rattle.std.proofs.Common.{◌≡◌, ℕ, ◌+◌, ◌≤◌, None, refl, ap, arith}
use Rattle.odb_device.specs.World.{Talk}
use Rattle.odb_device.specs.Calls.{CallsOn}
use Rattle.odb_device.specs.Console.{Talks}
use Rattle.odb_device.specs.Untold.{untold_moment, untold_world}
use Rattle.odb_device.proofs.Talking.{grows_same}

-- a call on a file, which failed at most once
pub untold_call : (file count now : ℕ) (talk : Talk) → count ≤ now → now ≤ count + 1 → CallsOn file (untold_world count talk) (untold_world now talk)
untold_call file count now talk more few = record {
  later = more;
  past = λ k le. refl;
  during = λ k after to. let same : k ≡ now = omega arith in ap untold_moment same;
  others = λ g other. refl;
  told = refl;
  said = refl;
  talk = refl;
  faults = λ g. more;
}

-- a call of the console
pub untold_talks : (count : ℕ) (old new : Talk) → old.take_faults ≤ new.take_faults → old.say_faults ≤ new.say_faults → Talks (untold_world count old) (untold_world count new)
untold_talks count old new take_faults say_faults = record {
  later = omega arith;
  past = λ k le. refl;
  files = λ k g from to. refl;
  said = λ k from to. (grows_same None None refl, grows_same None None refl);
  faults = λ k from to g. omega arith;
  take_faults = take_faults;
  say_faults = say_faults;
}
