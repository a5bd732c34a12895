-- A frame and its kind with its values determine each other: what a new kind adds a case to.
use mathlib.Core.Path.{◌≡◌, refl, sym, ◌∙◌, ap, subst}
use mathlib.Core.Bool.{Bool, true, false}
use mathlib.Core.List.{List, [], ◌∷◌}
use Prim.Native.Nat.{ℕ, zero, suc, ◌≤◌, ◌<◌}
use native.Mathlib.Omega.{arith}
use borrow.Author.Tests.{eqb-true}
use lib.Dec.{eqb}
use Rattle.std.specs.Prelude.{Option, Some, None}
use lib.ListN.{length, get_or}
use Rattle.frames.specs.Frames.{kind_number, kind_numbered, widths_of, line_length, longest_line, head_kind, update_values, kind_of, values_of, frame_from}
use Rattle.frames.specs.declared.HeadLine.{HeadLine}
use Rattle.frames.specs.declared.Frame.{Frame}
use Rattle.frames.specs.declared.Frame.TheVariants.{Head, S, End, Clock}
use Rattle.frames.specs.declared.kinds.Kind.{Kind}
use Rattle.frames.specs.declared.kinds.Kind.TheVariants.{OlderHead, Head as HeadKind, S as SKind, End as EndKind, Clock as ClockKind}

some_of : {A : Type 0} (x y : A) → Some x ≡ Some y → x ≡ y
some_of x y e = cc

-- a head line with this update period
abbrev head_with : HeadLine → Option ℕ → Frame
head_with h u =
    Head (record { timescale = h.timescale; offset = h.offset; start = h.start; duration = h.duration; depth = h.depth; first = h.first; update = u })

pub from_frame : (f : Frame) → frame_from (kind_of f) (values_of f) ≡ Some f
from_frame (Head h) = go h.update
  where
    go : (u : Option ℕ) → frame_from (head_kind u) (h.timescale ∷ h.offset ∷ h.start ∷ h.duration ∷ h.depth ∷ h.first ∷ update_values u) ≡ Some (head_with h u)
    go None = refl
    go (Some u) = refl
from_frame (S s) = refl
from_frame (End n) = refl
from_frame (Clock c) = refl

-- a kind takes one byte
pub kind_below : (f : Frame) → kind_of f < 256
kind_below (Head h) = go h.update
  where
    go : (u : Option ℕ) → head_kind u < 256
    go None = omega arith
    go (Some u) = omega arith
kind_below (S s) = omega arith
kind_below (End n) = omega arith
kind_below (Clock c) = omega arith

-- what holds of each known kind holds of every kind that makes a frame
by_kind : (P : ℕ → Type 0) → P 1 → P 2 → P 3 → P 4 → P 5 → (k : ℕ) (vs : List ℕ) (f : Frame) → frame_from k vs ≡ Some f → P k
by_kind P p₁ p₂ p₃ p₄ p₅ k vs f h = go (eqb k 1) refl (eqb k 2) refl (eqb k 3) refl (eqb k 4) refl (eqb k 5) refl
  where
    is : (n : ℕ) → eqb k n ≡ true → P n → P k
    is n e p = subst P (sym (eqb-true k n e)) p

    none : None ≡ Some f → P k
    none e = cc

    go : (a : Bool) → eqb k 1 ≡ a → (b : Bool) → eqb k 2 ≡ b → (c : Bool) → eqb k 3 ≡ c → (d : Bool) → eqb k 4 ≡ d → (x : Bool) → eqb k 5 ≡ x → P k
    go true e b e₂ c e₃ d e₄ x e₅ = is 1 e p₁
    go false e true e₂ c e₃ d e₄ x e₅ = is 2 e₂ p₂
    go false e false e₂ true e₃ d e₄ x e₅ = is 3 e₃ p₃
    go false e false e₂ false e₃ true e₄ x e₅ = is 4 e₄ p₄
    go false e false e₂ false e₃ false e₄ true e₅ = is 5 e₅ p₅
    go false e false e₂ false e₃ false e₄ false e₅ = none (simp (e, e₂, e₃, e₄, e₅) at h)

kind_made : (n : ℕ) (g f : Frame) → kind_of g ≡ n → Some g ≡ Some f → kind_of f ≡ n
kind_made n g f e h = ap kind_of (sym (some_of g f h)) ∙ e

pub kind_from : (k : ℕ) (vs : List ℕ) (f : Frame) → frame_from k vs ≡ Some f → kind_of f ≡ k
kind_from k vs f h =
    by_kind (λ (n : ℕ). frame_from n vs ≡ Some f → kind_of f ≡ n)
    (kind_made 1 _ f refl)
    (kind_made 2 _ f refl)
    (kind_made 3 _ f refl)
    (kind_made 4 _ f refl)
    (kind_made 5 _ f refl)
    k
    vs
    f
    h
    h

pub length_within : (k : ℕ) (vs : List ℕ) (f : Frame) → frame_from k vs ≡ Some f → line_length k ≤ longest_line
length_within k vs f h =
    by_kind (λ (n : ℕ). line_length n ≤ longest_line) (omega arith) (omega arith) (omega arith) (omega arith) (omega arith) k vs f h

-- a byte names no kind where none of them has it, and then no frame is made of it
pub no_kind : (k : ℕ) (vs : List ℕ) → kind_numbered k ≡ None → frame_from k vs ≡ None
no_kind k vs h = go (eqb k 1) refl (eqb k 2) refl (eqb k 3) refl (eqb k 4) refl (eqb k 5) refl
  where
    is : (x : Kind) → Some x ≡ None → frame_from k vs ≡ None
    is x e = cc

    go : (a : Bool) → eqb k 1 ≡ a → (b : Bool) → eqb k 2 ≡ b → (c : Bool) → eqb k 3 ≡ c → (d : Bool) → eqb k 4 ≡ d → (x : Bool) → eqb k 5 ≡ x → frame_from k vs ≡ None
    go true e b e₂ c e₃ d e₄ x e₅ = is OlderHead (simp e at h)
    go false e true e₂ c e₃ d e₄ x e₅ = is SKind (simp (e, e₂) at h)
    go false e false e₂ true e₃ d e₄ x e₅ = is EndKind (simp (e, e₂, e₃) at h)
    go false e false e₂ false e₃ true e₄ x e₅ = is ClockKind (simp (e, e₂, e₃, e₄) at h)
    go false e false e₂ false e₃ false e₄ true e₅ = is HeadKind (simp (e, e₂, e₃, e₄, e₅) at h)
    go false e false e₂ false e₃ false e₄ false e₅ = simp (e, e₂, e₃, e₄, e₅)

-- a kind that a byte names has that byte
pub kind_named : (k : ℕ) (x : Kind) → kind_numbered k ≡ Some x → kind_number x ≡ k
kind_named k x h = go (eqb k 1) refl (eqb k 2) refl (eqb k 3) refl (eqb k 4) refl (eqb k 5) refl
  where
    is : (y : Kind) (n : ℕ) → eqb k n ≡ true → kind_number y ≡ n → Some y ≡ Some x → kind_number x ≡ k
    is y n e p s = ap kind_number (sym (some_of y x s)) ∙ p ∙ sym (eqb-true k n e)

    none : None ≡ Some x → kind_number x ≡ k
    none e = absurd (cc)

    go : (a : Bool) → eqb k 1 ≡ a → (b : Bool) → eqb k 2 ≡ b → (c : Bool) → eqb k 3 ≡ c → (d : Bool) → eqb k 4 ≡ d → (y : Bool) → eqb k 5 ≡ y → kind_number x ≡ k
    go true e b e₂ c e₃ d e₄ y e₅ = is OlderHead 1 e refl (simp e at h)
    go false e true e₂ c e₃ d e₄ y e₅ = is SKind 2 e₂ refl (simp (e, e₂) at h)
    go false e false e₂ true e₃ d e₄ y e₅ = is EndKind 3 e₃ refl (simp (e, e₂, e₃) at h)
    go false e false e₂ false e₃ true e₄ y e₅ = is ClockKind 4 e₄ refl (simp (e, e₂, e₃, e₄) at h)
    go false e false e₂ false e₃ false e₄ true e₅ = is HeadKind 5 e₅ refl (simp (e, e₂, e₃, e₄, e₅) at h)
    go false e false e₂ false e₃ false e₄ false e₅ = none (simp (e, e₂, e₃, e₄, e₅) at h)

-- the first n elements, one by one, are the list where it has n
abbrev listed : (ℕ → ℕ) → ℕ → List ℕ
listed g zero = []
listed g (suc n) = g 0 ∷ listed (λ (i : ℕ). g (suc i)) n

all_listed : (vs : List ℕ) → listed (λ (i : ℕ). get_or vs i 0) (length vs) ≡ vs
all_listed [] = refl
all_listed (v ∷ vs) = ap (λ (l : List ℕ). v ∷ l) (all_listed vs)

first_listed : (n : ℕ) (vs : List ℕ) → length vs ≡ n → listed (λ (i : ℕ). get_or vs i 0) n ≡ vs
first_listed n vs e = ap (listed (λ (i : ℕ). get_or vs i 0)) (sym e) ∙ all_listed vs

values_made : (n : ℕ) (vs : List ℕ) (g f : Frame) → values_of g ≡ listed (λ (i : ℕ). get_or vs i 0) n → Some g ≡ Some f → length vs ≡ n → values_of f ≡ vs
values_made n vs g f e h l = ap values_of (sym (some_of g f h)) ∙ e ∙ first_listed n vs l

pub values_from : (k : ℕ) (vs : List ℕ) (f : Frame) → frame_from k vs ≡ Some f → length vs ≡ length (widths_of k)
    → values_of f ≡ vs
values_from k vs f h =
    by_kind (λ (n : ℕ). frame_from n vs ≡ Some f → length vs ≡ length (widths_of n) → values_of f ≡ vs)
    (values_made 6 vs _ f refl)
    (values_made 3 vs _ f refl)
    (values_made 1 vs _ f refl)
    (values_made 1 vs _ f refl)
    (values_made 7 vs _ f refl)
    k
    vs
    f
    h
    h
