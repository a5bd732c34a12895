-- What a held run and a shaped list of runs say, as facts. A shaped list is the encoding of its own references, and joined
-- references are those of their own encoding.
use mathlib.Core.Path.{◌≡◌, refl, sym, ap, ap₂, subst, ◌∙◌}
use mathlib.Core.Bool.{Bool, true, false, cond, ◌&&◌, not, and-eq-true_iff}
use Prim.Native.Nat.{ℕ, zero, suc, ◌+◌, ◌*◌, ◌≤◌, ◌<◌}
use native.Mathlib.Nat.{mul-one, mul-le-mul_left, not-suc-le-zero, le_refl, le_trans}
use native.Mathlib.Numerals.{add-one}
use native.Mathlib.Omega.{arith}
use mathlib.Core.List.{List, [], ◌∷◌, ◌++◌}
use lib.Dec.{eqb, leb}
use lib.ListN.{length, drop}
use borrow.Author.Tests.{leb-true, le-leb, eqb-true, eqb-false, eq-eqb, ne_eqb, not-true}
use Rattle.units.specs.declared.Span.{Span}
use Rattle.units.specs.Limits.{largest_tick, largest_span, span_held}
use Rattle.window.specs.declared.Reference.{Reference}
use Rattle.window.specs.Window.{end_of}
use Rattle.window.specs.References.{EndToStart, Each}
use Rattle.runs.specs.declared.Run.{Run}
use Rattle.runs.specs.Words.{run_end, repeated, references_of}
use Rattle.runs.specs.Encoding.{single, push, encode, runs_for}
use Rattle.runs.specs.Shape.{run_held, followed_by, runs_shaped}
use Rattle.runs.specs.Ends.{Within}

-- ---- a run that is held, as facts

pub span_limits : (d : Span) → span_held d ≡ true → (1 ≤ d.0) × (d.0 ≤ largest_span)
span_limits d t =
    let b = (and-eq-true_iff (leb 1 d.0) (leb d.0 largest_span)).0 t in
    (leb-true 1 d.0 b.0, leb-true d.0 largest_span b.1)

pub record HeldRun (r : Run) : Type 0 where
  pub lasts : 1 ≤ r.span.0
  pub short : r.span.0 ≤ largest_span
  pub some : 1 ≤ r.count
  pub ends : run_end r ≤ largest_tick

pub run_facts : (r : Run) → run_held r ≡ true → HeldRun r
run_facts r t =
    let a = (and-eq-true_iff (span_held r.span && leb 1 r.count) (leb (run_end r) largest_tick)).0 t in
    let b = (and-eq-true_iff (span_held r.span) (leb 1 r.count)).0 a.0 in
    let c = span_limits r.span b.0 in
    record { lasts = c.0; short = c.1; some = leb-true 1 r.count b.1; ends = leb-true (run_end r) largest_tick a.1 }

-- it takes a tick at least
pub run_grows : (r : Run) → 1 ≤ r.span.0 → 1 ≤ r.count → r.start.0 < run_end r
run_grows r lasts some = omega (arith, mul-le-mul_left r.span.0 some, mul-one r.span.0)

-- ---- what a shaped list says of its first run

pub record Leads (r : Run) (rs : List Run) : Type 0 where
  pub lasts : 1 ≤ r.span.0
  pub short : r.span.0 ≤ largest_span
  pub some : 1 ≤ r.count
  pub ends : run_end r ≤ largest_tick
  pub next : followed_by r rs ≡ true
  pub rest : runs_shaped rs ≡ true

pub leads : (r : Run) (rs : List Run) → runs_shaped (r ∷ rs) ≡ true → Leads r rs
unfolding runs_shaped
leads r rs t =
    let a = (and-eq-true_iff (run_held r && followed_by r rs) (runs_shaped rs)).0 t in
    let b = (and-eq-true_iff (run_held r) (followed_by r rs)).0 a.0 in
    let f = run_facts r b.0 in
    record { lasts = f.lasts; short = f.short; some = f.some; ends = f.ends; next = b.1; rest = a.1 }

pub first_held : (r : Run) (rs : List Run) → runs_shaped (r ∷ rs) ≡ true → run_held r ≡ true
unfolding runs_shaped
first_held r rs t = ((and-eq-true_iff (run_held r) (followed_by r rs)).0 ((and-eq-true_iff (run_held r && followed_by r rs) (runs_shaped rs)).0 t).0).0

pub led : (r : Run) (rs : List Run) → Leads r rs → runs_shaped (r ∷ rs) ≡ true
unfolding runs_shaped
led r rs l =
    ap₂ ◌&&◌
    (ap₂ ◌&&◌
    (ap₂ ◌&&◌
    (ap₂ ◌&&◌
    (ap₂ ◌&&◌ (le-leb 1 r.span.0 l.lasts) (le-leb r.span.0 largest_span l.short))
    (le-leb 1 r.count l.some))
    (le-leb (run_end r) largest_tick l.ends))
    l.next)
    l.rest

-- a run that leads shaped runs leads others that follow it
pub leads_too : (r : Run) (xs ys : List Run) → Leads r xs → followed_by r ys ≡ true → runs_shaped ys ≡ true → runs_shaped (r ∷ ys) ≡ true
leads_too r xs ys l next rest =
    led r ys (record { lasts = l.lasts; short = l.short; some = l.some; ends = l.ends; next = next; rest = rest })

-- the runs behind some of a shaped list are shaped
pub shaped_drop : (n : ℕ) (rs : List Run) → runs_shaped rs ≡ true → runs_shaped (drop n rs) ≡ true
shaped_drop zero rs t = t
shaped_drop (suc n) [] t = t
shaped_drop (suc n) (r ∷ rs) t = shaped_drop n rs (leads r rs t).rest

-- and those before some
pub shaped_front : (xs ys : List Run) → runs_shaped (xs ++ ys) ≡ true → runs_shaped xs ≡ true
unfolding runs_shaped
shaped_front [] ys s = refl
shaped_front (r ∷ []) ys s = leads_too r ys [] (leads r ys s) refl refl
shaped_front (r ∷ x ∷ xs) ys s =
    let l = leads r (x ∷ xs ++ ys) s in
    leads_too r (x ∷ xs ++ ys) (x ∷ xs) l l.next (shaped_front (x ∷ xs) ys l.rest)

pub shaped_last : (rs : List Run) (r : Run) → runs_shaped (rs ++ r ∷ []) ≡ true → runs_shaped (r ∷ []) ≡ true
shaped_last [] r t = t
shaped_last (x ∷ rs) r t = shaped_last rs r (leads x (rs ++ r ∷ []) t).rest

-- a duration that the first of the runs, if there is one, does not have
abbrev pub Fresh : ℕ → List Run → Type 0
Fresh d [] = Unit {0}
Fresh d (x ∷ xs) = d ≡ x.span.0 → ⊥

-- the first of the runs, if there is one, starts at tick t
abbrev pub Starts : ℕ → List Run → Type 0
Starts t [] = Unit {0}
Starts t (x ∷ xs) = x.start.0 ≡ t

pub fresh : (r : Run) (rs : List Run) → followed_by r rs ≡ true → Fresh r.span.0 rs
fresh r [] f = tt
fresh r (x ∷ xs) f =
    let b = (and-eq-true_iff (eqb (run_end r) x.start.0) (not (eqb r.span.0 x.span.0))).0 f in
    eqb-false r.span.0 x.span.0 (not-true (eqb r.span.0 x.span.0) b.1)

pub starts : (r : Run) (rs : List Run) → followed_by r rs ≡ true → Starts (run_end r) rs
starts r [] f = tt
starts r (x ∷ xs) f =
    let b = (and-eq-true_iff (eqb (run_end r) x.start.0) (not (eqb r.span.0 x.span.0))).0 f in
    sym (eqb-true (run_end r) x.start.0 b.0)

pub follow : (r : Run) (rs : List Run) → Fresh r.span.0 rs → Starts (run_end r) rs → followed_by r rs ≡ true
follow r [] f s = refl
follow r (x ∷ xs) f s = ap₂ ◌&&◌ (eq-eqb (run_end r) x.start.0 (sym s)) (ap not (ne_eqb r.span.0 x.span.0 f))

-- ---- encoding so many references of one duration

abbrev run : ℕ → ℕ → ℕ → Run
run s d n = record { start = record { 0 = s }; span = record { 0 = d }; count = n }

abbrev pub ref : ℕ → ℕ → Reference
ref s d = record { start = record { 0 = s }; span = record { 0 = d } }

push_fresh : (s d : ℕ) (rs : List Run) → Fresh d rs → push (ref s d) rs ≡ run s d 1 ∷ rs
unfolding push
push_fresh s d [] f = refl
push_fresh s d (x ∷ xs) f = ap (λ t. cond t (run s d (x.count + 1) ∷ xs) (run s d 1 ∷ x ∷ xs)) (ne_eqb d x.span.0 f)

push_same : (s d : ℕ) (x : Run) (xs : List Run) → d ≡ x.span.0 → push (ref s d) (x ∷ xs) ≡ run s d (x.count + 1) ∷ xs
unfolding push
push_same s d x xs e = ap (λ t. cond t (run s d (x.count + 1) ∷ xs) (run s d 1 ∷ x ∷ xs)) (eq-eqb d x.span.0 e)

run_encoded : (s d n : ℕ) (rest : List Reference) → 1 ≤ n → Fresh d (encode rest) → encode (repeated s d n ++ rest) ≡ run s d n ∷ encode rest
unfolding repeated encode
run_encoded s d zero rest some f = absurd (not-suc-le-zero some)
run_encoded s d (suc zero) rest some f = push_fresh s d (encode rest) f
run_encoded s d (suc (suc n)) rest some f =
    ap (push (ref s d)) (run_encoded (s + d) d (suc n) rest (omega arith) f) ∙
    push_same s d (run (s + d) d (suc n)) (encode rest) refl ∙
    ap (λ k. run s d k ∷ encode rest) (add-one (suc n))

-- THE LAW: what is shaped is the encoding of its own references
pub encoded : (rs : List Run) → runs_shaped rs ≡ true → encode (references_of rs) ≡ rs
unfolding references_of encode
encoded [] t = refl
encoded (r ∷ rs) t =
    let l = leads r rs t in
    let e : encode (references_of rs) ≡ rs = encoded rs l.rest in
    run_encoded r.start.0 r.span.0 r.count (references_of rs) l.some (rw e (fresh r rs l.next)) ∙
    ap (λ xs. r ∷ xs) e

-- ---- the references of an encoding

push_starts : (r : Reference) (xs : List Run) → Starts r.start.0 (push r xs)
unfolding push
push_starts r [] = refl
push_starts r (x ∷ xs) = go (eqb r.span.0 x.span.0)
  where
    go : (t : Bool) → Starts r.start.0 (cond t (run r.start.0 r.span.0 (x.count + 1) ∷ xs) (run r.start.0 r.span.0 1 ∷ x ∷ xs))
    go true = refl
    go false = refl

push_references : (r : Reference) (xs : List Run) → Starts (end_of r) xs → references_of (push r xs) ≡ r ∷ references_of xs
unfolding push references_of repeated
push_references r [] s = refl
push_references r (x ∷ xs) s = go (eqb r.span.0 x.span.0) refl
  where
    go : (t : Bool) → eqb r.span.0 x.span.0 ≡ t →
        references_of (cond t (run r.start.0 r.span.0 (x.count + 1) ∷ xs) (run r.start.0 r.span.0 1 ∷ x ∷ xs)) ≡ r ∷ references_of (x ∷ xs)
    go true e =
        ap (λ n. repeated r.start.0 r.span.0 n ++ references_of xs) (add-one x.count) ∙
        ap₂ (λ a d. r ∷ (repeated a d x.count ++ references_of xs)) (sym s) (eqb-true r.span.0 x.span.0 e)
    go false e = refl

push_shaped : (r : Reference) (xs : List Run) → Starts (end_of r) xs → Within r → runs_shaped xs ≡ true → runs_shaped (push r xs) ≡ true
unfolding push
push_shaped r [] s w t =
    led (run r.start.0 r.span.0 1) []
    (record { lasts = w.lasts; short = w.short; some = le_refl 1; ends = rw mul-one w.ends; next = refl; rest = t })
push_shaped r (x ∷ xs) s w t = go (eqb r.span.0 x.span.0) refl
  where
    joined : Run
    joined = run r.start.0 r.span.0 (x.count + 1)

    alone : Run
    alone = run r.start.0 r.span.0 1

    go : (u : Bool) → eqb r.span.0 x.span.0 ≡ u → runs_shaped (cond u (joined ∷ xs) (alone ∷ x ∷ xs)) ≡ true
    go true e =
        let l = leads x xs t in
        let same : r.span.0 ≡ x.span.0 = eqb-true r.span.0 x.span.0 e in
        let end : run_end joined ≡ run_end x = omega (arith, ap (λ k. k * x.count) same) in
        led joined xs
        (record {
          lasts = w.lasts;
          short = w.short;
          some = omega arith;
          ends = rw end l.ends;
          next = follow joined xs (rw same (fresh x xs l.next)) (rw end (starts x xs l.next));
          rest = l.rest;
        })
    go false e =
        led alone (x ∷ xs)
        (record {
          lasts = w.lasts;
          short = w.short;
          some = le_refl 1;
          ends = rw mul-one w.ends;
          next = follow alone (x ∷ xs) (eqb-false r.span.0 x.span.0 e) (rw mul-one s);
          rest = t;
        })

starts_encode : (t : ℕ) (rs : List Reference) → EndToStart t rs → Starts t (encode rs)
unfolding encode
starts_encode t [] j = tt
starts_encode t (r ∷ rs) j = subst (λ (k : ℕ). Starts k (push r (encode rs))) j.0 (push_starts r (encode rs))

pub references_back : (t : ℕ) (rs : List Reference) → EndToStart t rs → references_of (encode rs) ≡ rs
unfolding encode references_of
references_back t [] j = refl
references_back t (r ∷ rs) j =
    push_references r (encode rs) (starts_encode (end_of r) rs j.1) ∙
    ap (λ xs. r ∷ xs) (references_back (end_of r) rs j.1)

pub shaped_encode : (t : ℕ) (rs : List Reference) → EndToStart t rs → Each Within rs → runs_shaped (encode rs) ≡ true
unfolding encode runs_shaped
shaped_encode t [] j w = refl
shaped_encode t (r ∷ rs) j w =
    push_shaped r (encode rs) (starts_encode (end_of r) rs j.1) w.0 (shaped_encode (end_of r) rs j.1 w.1)

-- ---- fewer references take no more runs

push_grows : (r : Reference) (xs : List Run) → length xs ≤ length (push r xs)
unfolding push
push_grows r [] = omega arith
push_grows r (x ∷ xs) = go (eqb r.span.0 x.span.0)
  where
    go : (t : Bool) →
        suc (length xs) ≤ length (cond t (run r.start.0 r.span.0 (x.count + 1) ∷ xs) (run r.start.0 r.span.0 1 ∷ x ∷ xs))
    go true = omega arith
    go false = omega arith

pub runs_drop : (n : ℕ) (rs : List Reference) → runs_for (drop n rs) ≤ runs_for rs
unfolding encode
runs_drop zero rs = le_refl (runs_for rs)
runs_drop (suc n) [] = le_refl 0
runs_drop (suc n) (r ∷ rs) = le_trans (runs_drop n rs) (push_grows r (encode rs))

-- ---- a front part takes no more runs than the whole

-- runs that are no more than others, and begin with a run of the same duration
abbrev Under : List Run → List Run → Type 0
Under [] ys = Unit {0}
Under (x ∷ xs) [] = ⊥
Under (x ∷ xs) (y ∷ ys) = (x.span.0 ≡ y.span.0) × (length xs ≤ length ys)

under_fewer : (xs ys : List Run) → Under xs ys → length xs ≤ length ys
under_fewer [] ys u = omega arith
under_fewer (x ∷ xs) [] u = absurd u
under_fewer (x ∷ xs) (y ∷ ys) u = omega (arith, u.1)

-- a run of a reference and of those of a run behind it
abbrev widened : Reference → Run → Run
widened r x = record { start = r.start; span = r.span; count = x.count + 1 }

push_under : (r : Reference) (xs ys : List Run) → Under xs ys → Under (push r xs) (push r ys)
unfolding push
push_under r [] [] u = (refl, le_refl 0)
push_under r [] (y ∷ ys) u = go (eqb r.span.0 y.span.0)
  where
    go : (b : Bool) → Under (single r ∷ []) (cond b (widened r y ∷ ys) (single r ∷ y ∷ ys))
    go true = (refl, omega arith)
    go false = (refl, omega arith)
push_under r (x ∷ xs) [] u = absurd u
push_under r (x ∷ xs) (y ∷ ys) u =
    subst (λ (d : ℕ). Under (push r (x ∷ xs)) (cond (eqb r.span.0 d) (widened r y ∷ ys) (single r ∷ y ∷ ys))) u.0
    (go (eqb r.span.0 x.span.0))
  where
    go : (b : Bool) → Under (cond b (widened r x ∷ xs) (single r ∷ x ∷ xs)) (cond b (widened r y ∷ ys) (single r ∷ y ∷ ys))
    go true = (refl, u.1)
    go false = (refl, omega (arith, u.1))

front_under : (xs ys : List Reference) → Under (encode xs) (encode (xs ++ ys))
unfolding encode
front_under [] ys = tt
front_under (r ∷ xs) ys = push_under r (encode xs) (encode (xs ++ ys)) (front_under xs ys)

pub runs_prefix : (xs ys : List Reference) → runs_for xs ≤ runs_for (xs ++ ys)
runs_prefix xs ys = under_fewer (encode xs) (encode (xs ++ ys)) (front_under xs ys)
