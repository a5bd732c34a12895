-- A line put into an output: the fields of a frame, its kind in front, make its line. And a head's by whether it has its update period.
use mathlib.Core.Path.{◌≡◌, sym, subst, subst⁻¹, ◌∙◌}
use mathlib.Core.List.{List, [], ◌∷◌, ◌++◌, append_assoc}
use Prim.Native.Nat.{ℕ, ◌<◌}
use lib.ListN.{drop}
use Rattle.frames.specs.Fields.{field_digits}
use Rattle.frames.specs.Frames.{line_widths, line_length, ended_length, head_kind, update_values, kind_of, values_of, line_of, ended_line, Written}
use Rattle.frames.specs.declared.HeadLine.{HeadLine}
use Rattle.std.specs.Prelude.{Option}
use Rattle.frames.specs.declared.Frame.{Frame}
use Rattle.frames.specs.declared.Frame.TheVariants.{Head}

-- what the writer of fields leaves for a kind and its values
abbrev pub Put : ℕ → List ℕ → List ℕ → List ℕ → ℕ → Type 0
Put k vs before after n = (n ≡ ended_length k) × (after ≡ field_digits (line_widths k) (k ∷ vs) ++ 10 ∷ drop (ended_length k) before)

pub line_put : (f : Frame) (before after : List ℕ) (n : ℕ) → Put (kind_of f) (values_of f) before after n → Written f before after n
unfolding ended_line line_of
line_put f before after n e =
    record {
      long = e.0;
      bytes = e.1 ∙ sym (append_assoc (line_of f) (10 ∷ []) (drop (ended_length (kind_of f)) before));
    }

module _ (h : HeadLine) (u : Option ℕ) (e : h.update ≡ u) where
  pub head_room : (n : ℕ) → line_length (head_kind h.update) < n → line_length (head_kind u) < n
  head_room n l = subst (λ x. line_length (head_kind x) < n) e l

  pub head_put : (before after : List ℕ) (n : ℕ) →
      Put (head_kind u) (h.timescale ∷ h.offset ∷ h.start ∷ h.duration ∷ h.depth ∷ h.first ∷ update_values u) before after n → Written (Head h) before after n
  head_put before after n p =
      line_put (Head h) before after n
      (subst⁻¹ (λ x. Put (head_kind x) (h.timescale ∷ h.offset ∷ h.start ∷ h.duration ∷ h.depth ∷ h.first ∷ update_values x) before after n) e p)
