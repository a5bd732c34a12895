-- What is asked of a reading at each stage, as named facts: the steps of the reader ask them of one another. The test `stage_held` (Feeding) says the
-- same, by the law `Stage-is` (proofs/Sounding.antt), and the public statements cite that one.
use Rattle.std.specs.Prelude.{Option, Some, None, ℕ, ◌+◌, ◌≤◌, ◌≡◌, true, List}
use Rattle.units.specs.Limits.{largest_span}
use Rattle.window.specs.Limits.{head_held}
use Rattle.agreement.specs.Agreement.{agrees}
use Rattle.frames.specs.declared.Frame.{Frame}
use Rattle.frames.specs.declared.Frame.TheVariants.{Head, S, End, Clock}
use Rattle.file.specs.declared.Stage.{Stage}
use Rattle.file.specs.declared.Stage.TheVariants.{Nothing, Headed, Open, Filled, Ended, Refused}
use Rattle.file.specs.declared.Reading.{Reading}
use Rattle.file.specs.Feeding.{most_lines}

-- record and table agree, and there are no more S lines than references
pub record Running (r : Reading) (ws : List ℕ) : Type 0 where
  pub agreed : agrees r.rec ws ≡ true
  pub some : 1 ≤ r.lines
  pub few : r.lines ≤ r.rec.accepted + 1

pub record Begins (r : Reading) : Type 0 where
  pub held : head_held r.rec.head ≡ true
  pub one : r.lines ≡ 1

pub record Closed (r : Reading) (ws : List ℕ) : Type 0 where
  pub agreed : agrees r.rec ws ≡ true
  pub few : r.lines ≤ most_lines

pub record Counted (r : Reading) : Type 0 where
  pub few : r.lines ≤ most_lines

-- a duration of 32 bits, as every S line has
abbrev pub Narrow : Option Frame → Type 0
Narrow (Some (Head h)) = Unit {0}
Narrow (Some (S s)) = s.d ≤ largest_span
Narrow (Some (End n)) = Unit {0}
Narrow (Some (Clock c)) = Unit {0}
Narrow None = Unit {0}

unfoldable pub Sound : Stage → Reading → List ℕ → Type 0
Sound Nothing r ws = r.lines ≡ 0
Sound Headed r ws = Begins r
Sound Open r ws = Running r ws
Sound Filled r ws = Running r ws
Sound Ended r ws = Closed r ws
Sound (Refused why) r ws = Counted r
