-- The steps of the judgement of a line, as the code meets them: what an outcome settles. S lines: SLines.
use mathlib.Core.Path.{◌≡◌, sym, ap, ap₂, ◌∙◌}
use mathlib.Core.List.{List}
use Prim.Native.Nat.{ℕ}
use Rattle.std.specs.Prelude.{Err, Ok}
use Rattle.keeping.specs.Keeping.{Outcome}
use Rattle.agreement.specs.declared.Record.{Record}
use Rattle.agreement.specs.declared.refusal.Refusal.{Refusal}
use Rattle.keeping.specs.declared.Changed.{Changed}
use Rattle.keeping.specs.Keeping.{words_keeping, changed_by, words_by}
use Rattle.keeping.specs.Append.{unspent_of, appended}
use Rattle.file.specs.declared.Stage.{Stage}
use Rattle.file.specs.declared.Stage.TheVariants.{Refused}
use Rattle.file.specs.declared.Reading.{Reading}
use Rattle.file.specs.Judging.{File, settled_reading, refused, settled, appended_by}

-- what a call answered settles as its outcome does
settles : (o : Outcome) (s : Stage) (r : Reading) (new old : Record) (c : Changed) → c ≡ changed_by o new old →
    settled_reading c.outcome s r c.rec ≡ settled_reading o s r new
unfolding changed_by settled_reading
settles (Ok _) s r new old c e = ap (λ (y : Changed). settled_reading y.outcome s r y.rec) e
settles (Err why) s r new old c e = ap (λ (y : Changed). settled_reading y.outcome s r y.rec) e

pub both : (x y : Reading) (vs ws : List ℕ) → x ≡ y → vs ≡ ws → ◌≡◌ {A = File} (record { reading = x; words = vs }) (record { reading = y; words = ws })
both x y vs ws e k = ap₂ (λ a b. record { reading = a; words = b }) e k

-- a refused outcome is a refused line
pub refused_is : (o : Outcome) (why : Refusal) (s : Stage) (r : Reading) (rec : Record) (new ws : List ℕ) → o ≡ Err why →
    refused why r ws ≡ settled o s r rec new ws
unfolding settled_reading words_by
refused_is o why s r rec new ws e = sym (ap (λ y. settled y s r rec new ws) e)

module _ (r : Reading) (ws : List ℕ) (why : Refusal) (x : Reading) (k : x ≡ record { stage = Refused why; lines = r.lines; rec = r.rec }) where
  pub refused_by : (f : File) → refused why r ws ≡ f → ◌≡◌ {A = File} (record { reading = x; words = ws }) f
  refused_by f e = ap (λ y. record { reading = y; words = ws }) k ∙ e

-- what was appended, by the outcome of the append
pub appended_by_lem : (o other : Outcome) (s : Stage) (r : Reading) (ws : List ℕ) (d n m : ℕ) → o ≡ other → n ≡ m →
    (c : Changed) → c ≡ changed_by other (appended r.rec ws d n) r.rec →
    (vs : List ℕ) → vs ≡ words_by other (words_keeping ws (unspent_of r.rec ws d n)) ws →
    (x : Reading) → x ≡ settled_reading c.outcome s r c.rec →
    ◌≡◌ {A = File} (record { reading = x; words = vs }) (appended_by o s r ws d m)
appended_by_lem o other s r ws d n m e l c k vs v x j =
    both x (settled_reading other s r (appended r.rec ws d n)) vs (words_by other (words_keeping ws (unspent_of r.rec ws d n)) ws)
    (j ∙ settles other s r (appended r.rec ws d n) r.rec c k) v ∙
    ap₂ (λ y i. appended_by y s r ws d i) (sym e) l
