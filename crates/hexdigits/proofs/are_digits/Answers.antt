-- `are_digits` meets its contract: the test of every element is the definition's.
use Rattle.std.proofs.Common.{◌≡◌, ap, refl, ◌∙◌, Bool, ◌&&◌, List, [], ◌∷◌, ℕ, rules}
use Rattle.std.specs.List.{list_all}
use Rattle.std.proofs.lemmas.Iterator.Search.{all_from_yields_List}
use Rattle.std.proofs.lemmas.Iterator.{YieldsList-from_slice}
use Rattle.hexdigits.specs.Digits.{is_digit, are_digits}
use Rattle.hexdigits.proofs.are_digits.Goals as goal

all_digits : (s : List ℕ) → list_all is_digit s ≡ are_digits s
unfolding are_digits
all_digits [] = refl
all_digits (b ∷ s) = ap (λ (t : Bool). is_digit b && t) (all_digits s)

pub returns : goal.returns
returns c =
    let s = c.args.s.now in
    all_from_yields_List is_digit _ _ c.all.result c.all.ensures.ran (YieldsList-from_slice s cc) (λ x b q k. search rules) ∙ all_digits s
