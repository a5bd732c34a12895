-- References of shaped runs join end to start, each is within the limits, and the last ends where the last run does.
use mathlib.Core.Path.{◌≡◌, refl, sym, ap, subst, ◌∙◌}
use mathlib.Core.Bool.{true}
use Prim.Native.Nat.{ℕ, zero, suc, ◌+◌, ◌-◌, ◌*◌, ◌≤◌}
use native.Mathlib.Nat.{add-zero, zero-add, mul-zero, not-suc-le-zero, suc-add}
use native.Mathlib.Omega.{arith}
use mathlib.Core.List.{List, [], ◌∷◌, ◌++◌, append-nil, append_assoc}
use lib.ListN.{length, get_or, take, drop}
use lib.Seq.{drop_at}
use Rattle.units.specs.Limits.{largest_tick, largest_span}
use Rattle.window.specs.declared.Reference.{Reference}
use Rattle.window.specs.Window.{end_of}
use Rattle.window.specs.References.{EndToStart, Each}
use Rattle.runs.specs.declared.Run.{Run}
use Rattle.runs.specs.Words.{last_run, runs_of, run_end, repeated, references_of, kept_in}
use Rattle.runs.specs.Shape.{runs_shaped, shaped}
use Rattle.runs.specs.Ends.{last_end, Within}
use Rattle.runs.proofs.Opening.{last_opens, references_in, repeated_length}
use Rattle.runs.proofs.Encoded.{leads, shaped_last, Starts, starts, ref}
use Rattle.runs.proofs.Tables.{runs_shaped_lem}

-- ---- lists of references, one behind the other

pub end_append : (t : ℕ) (xs ys : List Reference) → last_end t (xs ++ ys) ≡ last_end (last_end t xs) ys
unfolding last_end
end_append t [] ys = refl
end_append t (x ∷ xs) ys = end_append (end_of x) xs ys

pub join_append : (t : ℕ) (xs ys : List Reference) → EndToStart t xs → EndToStart (last_end t xs) ys → EndToStart t (xs ++ ys)
unfolding last_end
join_append t [] ys j k = k
join_append t (x ∷ xs) ys j k = (j.0, join_append (end_of x) xs ys j.1 k)

pub join_back : (t : ℕ) (xs ys : List Reference) → EndToStart t (xs ++ ys) → EndToStart (last_end t xs) ys
unfolding last_end
join_back t [] ys j = j
join_back t (x ∷ xs) ys j = join_back (end_of x) xs ys j.1

pub each_append : (P : Reference → Type 0) (xs ys : List Reference) → Each P xs → Each P ys → Each P (xs ++ ys)
each_append P [] ys e f = f
each_append P (x ∷ xs) ys e f = (e.0, each_append P xs ys e.1 f)

-- what a drop leaves joins as before, and each keeps its property
pub join_drop : (n t : ℕ) (rs : List Reference) → EndToStart t rs → EndToStart (last_end t (take n rs)) (drop n rs)
unfolding last_end
join_drop zero t rs j = j
join_drop (suc n) t [] j = tt
join_drop (suc n) t (r ∷ rs) j = join_drop n (end_of r) rs j.1

pub each_drop : (P : Reference → Type 0) (n : ℕ) (rs : List Reference) → Each P rs → Each P (drop n rs)
each_drop P zero rs e = e
each_drop P (suc n) [] e = e
each_drop P (suc n) (r ∷ rs) e = each_drop P n rs e.1

pub references_append : (xs ys : List Run) → references_of (xs ++ ys) ≡ references_of xs ++ references_of ys
unfolding references_of
references_append [] ys = refl
references_append (x ∷ xs) ys =
    ap (λ rs. references_in x ++ rs) (references_append xs ys) ∙
    sym (append_assoc (references_in x) (references_of xs) (references_of ys))

pub references_of_run : (r : Run) → references_of (r ∷ []) ≡ references_in r
unfolding references_of
references_of_run r = append-nil (references_in r)

-- ---- references of one duration

pub repeated_join : (s d n : ℕ) → EndToStart s (repeated s d n)
unfolding repeated
repeated_join s d zero = tt
repeated_join s d (suc n) = (refl, repeated_join (s + d) d n)

pub repeated_end : (t s d n : ℕ) → 1 ≤ n → last_end t (repeated s d n) ≡ s + d * n
unfolding repeated last_end
repeated_end t s d zero some = absurd (not-suc-le-zero some)
repeated_end t s d (suc zero) some = omega arith
repeated_end t s d (suc (suc n)) some = repeated_end (s + d) (s + d) d (suc n) (omega arith) ∙ omega arith

pub repeated_within : (s d n : ℕ) → 1 ≤ d → d ≤ largest_span → s + d * n ≤ largest_tick → Each Within (repeated s d n)
unfolding repeated
repeated_within s d zero a b c = tt
repeated_within s d (suc n) a b c = (record { lasts = a; short = b; ends = omega arith }, repeated_within (s + d) d n a b (omega arith))

-- so many and then so many more, from where the first end
pub repeated_add : (s d m n : ℕ) → repeated s d (m + n) ≡ repeated s d m ++ repeated (s + d * m) d n
unfolding repeated
repeated_add s d zero n = simp (zero-add, mul-zero, add-zero)
repeated_add s d (suc m) n =
    let end : s + d + d * m ≡ s + d * suc m = omega arith in
    ap (repeated s d) (suc-add m n) ∙
    ap (λ rs. ref s d ∷ rs) (repeated_add (s + d) d m n ∙ ap (λ a. repeated (s + d) d m ++ repeated a d n) end)

-- so many less the first k, from where those end
pub repeated_drop : (s d n k : ℕ) → k ≤ n → drop k (repeated s d n) ≡ repeated (s + d * k) d (n - k)
repeated_drop s d n k l =
    let parts : n ≡ k + (n - k) = omega arith in
    ap (λ m. drop k (repeated s d m)) parts ∙
    ap (drop k) (repeated_add s d k (n - k)) ∙
    drop_at (repeated s d k) (repeated (s + d * k) d (n - k)) k (repeated_length s d k)

-- ---- references of shaped runs

pub references_join : (t : ℕ) (rs : List Run) → runs_shaped rs ≡ true → Starts t rs → EndToStart t (references_of rs)
unfolding references_of
references_join t [] u s = tt
references_join t (r ∷ rs) u s =
    let l = leads r rs u in
    subst (λ (k : ℕ). EndToStart k (references_of (r ∷ rs))) s
    (join_append r.start.0 (references_in r) (references_of rs)
    (repeated_join r.start.0 r.span.0 r.count)
    (rw (repeated_end r.start.0 r.start.0 r.span.0 r.count l.some) (references_join (run_end r) rs l.rest (starts r rs l.next))))

pub references_within : (rs : List Run) → runs_shaped rs ≡ true → Each Within (references_of rs)
unfolding references_of
references_within [] u = tt
references_within (r ∷ rs) u =
    let l = leads r rs u in
    each_append Within (references_in r) (references_of rs)
    (repeated_within r.start.0 r.span.0 r.count l.lasts l.short l.ends)
    (references_within rs l.rest)

-- the last run's end is the last reference's
pub references_end : (t : ℕ) (rs : List Run) (r : Run) → 1 ≤ r.count → last_end t (references_of (rs ++ r ∷ [])) ≡ run_end r
references_end t rs r some =
    ap (last_end t) (references_append rs (r ∷ []) ∙ ap (λ xs. references_of rs ++ xs) (references_of_run r)) ∙
    end_append t (references_of rs) (references_in r) ∙
    repeated_end (last_end t (references_of rs)) r.start.0 r.span.0 r.count some

-- ---- how many there can be: each takes a tick

end_within : (t : ℕ) (rs : List Reference) → t ≤ largest_tick → Each Within rs → last_end t rs ≤ largest_tick
unfolding last_end
end_within t [] l w = l
end_within t (r ∷ rs) l w = end_within (end_of r) rs w.0.ends w.1

pub ticks_taken : (t : ℕ) (rs : List Reference) → EndToStart t rs → Each Within rs → t + length rs ≤ last_end t rs
unfolding last_end
ticks_taken t [] j w = omega arith
ticks_taken t (r ∷ rs) j w = omega (arith, ticks_taken (end_of r) rs j.1 w.1, w.0.lasts, j.0)

few : (t : ℕ) (rs : List Reference) → EndToStart t rs → Each Within rs → length rs ≤ largest_tick
few t [] j w = omega arith
few t (r ∷ rs) j w =
    omega (arith, ticks_taken (end_of r) rs j.1 w.1, end_within (end_of r) rs w.0.ends w.1, w.0.lasts)

-- ---- what a shaped table keeps

module _ (used : ℕ) (ws : List ℕ) (t : shaped used ws ≡ true) where
  pub kept_join : EndToStart (get_or ws 0 0) (kept_in used ws)
  unfolding runs_of
  kept_join = references_join (get_or ws 0 0) (runs_of used ws) (runs_shaped_lem used ws t) (go used)
    where
      go : (n : ℕ) → Starts (get_or ws 0 0) (runs_of n ws)
      go zero = tt
      go (suc n) = refl

  pub kept_within : Each Within (kept_in used ws)
  kept_within = references_within (runs_of used ws) (runs_shaped_lem used ws t)

  pub kept_few : length (kept_in used ws) ≤ largest_tick
  kept_few = few (get_or ws 0 0) (kept_in used ws) kept_join kept_within

  pub kept_end : (s : ℕ) → (used ≡ 0 → ⊥) → last_end s (kept_in used ws) ≡ run_end (last_run used ws)
  kept_end s some =
      let before : List Run = take (used - 1) (runs_of used ws) in
      let last : Run = last_run used ws in
      let l = leads last [] (shaped_last before last (ap runs_shaped (sym (last_opens used ws some)) ∙ runs_shaped_lem used ws t)) in
      ap (λ rs. last_end s (references_of rs)) (last_opens used ws some) ∙ references_end s before last l.some
