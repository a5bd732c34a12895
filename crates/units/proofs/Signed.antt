-- Signed numbers by two naturals: `Is z a b` says that z is a less b, as a linear equation that omega reads.
-- Each operation on ℤ is bridged once, so that a signed definition becomes a comparison of naturals in a line.
use Rattle.std.proofs.Common.{◌≡◌, ℕ, zero, suc, ◌+◌, ◌-◌, ◌*◌, ◌<◌, ◌≤◌, Bool, true, false, cond, ltb, leb, ℤ, pos, negsuc, ◌+ℤ◌, ◌-ℤ◌, ◌*ℤ◌, neg_ℤ, sym, refl, ap, ◌∙◌, add-mul, arith, ltb-false, ltb-true, le-ltb, lt-ltb, le-leb, leb-false, leb-true}
use borrow.Author.Tests.{lt-leb}
use lib.IntN.{sub_ℕ}
use lib.Signed.{lt_z, le_z}

abbrev pub up : ℤ → ℕ
up (pos n) = n
up (negsuc n) = 0

abbrev pub down : ℤ → ℕ
down (pos n) = 0
down (negsuc n) = suc n

pub record Is (z : ℤ) (a b : ℕ) : Type 0 where
  pub same : up z + b ≡ a + down z

-- the pair may be moved, both parts by as much
pub is_moved : (z : ℤ) (a b c d : ℕ) → a + d ≡ c + b → Is z a b → Is z c d
is_moved z a b c d e h = record { same = omega (arith, h.same) }

pub is_pos : (n : ℕ) → Is (pos n) n 0
is_pos n = record { same = refl }

is_neg : (z : ℤ) (a b : ℕ) → Is z a b → Is (neg_ℤ z) b a
is_neg (pos zero) a b h = record { same = omega (arith, h.same) }
is_neg (pos (suc n)) a b h = record { same = omega (arith, h.same) }
is_neg (negsuc n) a b h = record { same = omega (arith, h.same) }

-- a natural less another
is_subℕ : (m n a b : ℕ) → m + b ≡ a + n → Is (sub_ℕ m n) a b
is_subℕ m n a b h = go (ltb m n) refl
  where
    go : (t : Bool) → ltb m n ≡ t → Is (cond t (negsuc (n - suc m)) (pos (m - n))) a b
    go true e = let l : m < n = ltb-true m n e in record { same = omega arith }
    go false e = let l : n ≤ m = ltb-false m n e in record { same = omega arith }

pub is_add : (z w : ℤ) (a b c d : ℕ) → Is z a b → Is w c d → Is (z +ℤ w) (a + c) (b + d)
is_add (pos m) (pos n) a b c d h k = record { same = omega (arith, h.same, k.same) }
is_add (pos m) (negsuc n) a b c d h k = is_subℕ m (suc n) (a + c) (b + d) (omega (arith, h.same, k.same))
is_add (negsuc m) (pos n) a b c d h k = is_subℕ n (suc m) (a + c) (b + d) (omega (arith, h.same, k.same))
is_add (negsuc m) (negsuc n) a b c d h k = record { same = omega (arith, h.same, k.same) }

pub is_sub : (z w : ℤ) (a b c d : ℕ) → Is z a b → Is w c d → Is (z -ℤ w) (a + d) (b + c)
is_sub z w a b c d h k = is_add z (neg_ℤ w) a b d c h (is_neg w c d k)

pub is_less : (a b : ℕ) → Is (pos a -ℤ pos b) a b
is_less a b = is_moved (pos a -ℤ pos b) (a + 0) (0 + b) a b (omega arith) (is_sub (pos a) (pos b) a 0 b 0 (is_pos a) (is_pos b))

scaled : (m b a n : ℕ) → m + b ≡ a → m * n + b * n ≡ a * n
scaled m b a n e = sym (add-mul m b n) ∙ ap (λ (k : ℕ). k * n) e

pub is_mul : (z : ℤ) (a b n : ℕ) → Is z a b → Is (z *ℤ pos n) (a * n) (b * n)
is_mul (pos m) a b n h =
    let e : m + b ≡ a = omega (arith, h.same) in
    record { same = omega (arith, scaled m b a n e) }
is_mul (negsuc m) a b n h =
    let e : suc m + a ≡ b = omega (arith, h.same) in
    is_neg (pos (suc m * n)) (b * n) (a * n) (record { same = omega (arith, scaled (suc m) a b n e) })

-- one signed number has many such pairs, and a pair has one number
pub is_unique : (z w : ℤ) (a b : ℕ) → Is z a b → Is w a b → z ≡ w
is_unique (pos m) (pos n) a b h k = ap pos (omega (arith, h.same, k.same))
is_unique (pos m) (negsuc n) a b h k = let z : ⊥ = omega (arith, h.same, k.same) in absurd z
is_unique (negsuc m) (pos n) a b h k = let z : ⊥ = omega (arith, h.same, k.same) in absurd z
is_unique (negsuc m) (negsuc n) a b h k = ap negsuc (omega (arith, h.same, k.same))

-- two tests on naturals that linear equations make one
pub same_ltb : (m n p q : ℕ) → m + q ≡ n + p → ltb m n ≡ ltb p q
same_ltb m n p q h = go (ltb m n) refl
  where
    go : (t : Bool) → ltb m n ≡ t → t ≡ ltb p q
    go true e = let l : m < n = ltb-true m n e in sym (lt-ltb p q (omega arith))
    go false e = let l : n ≤ m = ltb-false m n e in sym (le-ltb p q (omega arith))

pub same_leb : (m n p q : ℕ) → m + q ≡ n + p → leb m n ≡ leb p q
same_leb m n p q h = go (leb m n) refl
  where
    go : (t : Bool) → leb m n ≡ t → t ≡ leb p q
    go true e = let l : m ≤ n = leb-true m n e in sym (le-leb p q (omega arith))
    go false e = let l : n < m = leb-false m n e in sym (lt-leb p q (omega arith))

pub lt_is : (z w : ℤ) (a b c d : ℕ) → Is z a b → Is w c d → lt_z z w ≡ ltb (a + d) (c + b)
lt_is (pos m) (pos n) a b c d h k = same_ltb m n (a + d) (c + b) (omega (arith, h.same, k.same))
lt_is (pos m) (negsuc n) a b c d h k = sym (le-ltb (a + d) (c + b) (omega (arith, h.same, k.same)))
lt_is (negsuc m) (pos n) a b c d h k = sym (lt-ltb (a + d) (c + b) (omega (arith, h.same, k.same)))
lt_is (negsuc m) (negsuc n) a b c d h k = same_ltb n m (a + d) (c + b) (omega (arith, h.same, k.same))

pub le_is : (z w : ℤ) (a b c d : ℕ) → Is z a b → Is w c d → le_z z w ≡ leb (a + d) (c + b)
le_is (pos m) (pos n) a b c d h k = same_leb m n (a + d) (c + b) (omega (arith, h.same, k.same))
le_is (pos m) (negsuc n) a b c d h k = sym (lt-leb (a + d) (c + b) (omega (arith, h.same, k.same)))
le_is (negsuc m) (pos n) a b c d h k = sym (le-leb (a + d) (c + b) (omega (arith, h.same, k.same)))
le_is (negsuc m) (negsuc n) a b c d h k = same_leb n m (a + d) (c + b) (omega (arith, h.same, k.same))

-- a difference of naturals, by which is the larger
pub ahead : (a b : ℕ) → b ≤ a → pos a -ℤ pos b ≡ pos (a - b)
ahead a b h = is_unique (pos a -ℤ pos b) (pos (a - b)) a b (is_less a b) (record { same = omega arith })

pub behind : (a b : ℕ) → a < b → pos a -ℤ pos b ≡ negsuc (b - suc a)
behind a b h = is_unique (pos a -ℤ pos b) (negsuc (b - suc a)) a b (is_less a b) (record { same = omega arith })
