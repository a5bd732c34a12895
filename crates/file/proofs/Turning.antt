-- The turns of the loop that feeds a piece. What is left of the piece comes to the same, from where the reader is, as the whole piece from where it was.
use mathlib.Core.Path.{◌≡◌, refl, sym, ap, ap₂, subst⁻¹, ◌∙◌}
use mathlib.Core.Bool.{Bool, true, false, not, and-eq-true_iff}
use mathlib.Core.List.{List, [], ◌∷◌, ◌++◌, append-nil}
use Prim.Native.Nat.{ℕ, suc, ◌+◌, ◌-◌, ◌≤◌, ◌<◌}
use native.Mathlib.Omega.{arith}
use borrow.Author.Tests.{leb-true, eqb-true}
use lib.Dec.{leb, eqb}
use lib.ListN.{length, take, drop, length-drop}
use lib.Seq.{take_all, length-take-le}
use mir.Syntax.{w64}
use mir.Val.{Fits}
use Rattle.std.specs.Prelude.{Option, Some, None}
use Rattle.units.proofs.Guards.{told, refused, allowed}
use Rattle.runs.specs.Shape.{zeros}
use Rattle.file.specs.declared.Reading.{Reading}
use Rattle.file.specs.declared.LineSoFar.{LineSoFar}
use Rattle.file.specs.declared.Reader.{Reader}
use Rattle.file.specs.Lines.{first_line, behind_first, feed_at, lines_from, rest_from}
use Rattle.file.specs.Judging.{File, take_line, take_lines}
use Rattle.file.specs.SoFar.{most_bytes, so_far, first_bytes, proper}
use Rattle.file.specs.Feeding.{stage_held, belongs, fed_file, fed_reader, fed_table}
use Rattle.file.specs.Sound.{Sound}
use Rattle.file.proofs.Cuts.{line_is, behind_is, behind_less, feed_none, feed_some}
use Rattle.file.proofs.SoFar.{same_line, first_bytes_lem, of_first}
use Rattle.file.proofs.Cutting.{no_line, lines_first, rest_first, unfed_unended, first_line_lem}
use Rattle.file.proofs.Sounding.{stage_is, line_sound}

-- ---- what a reader that belongs is

module _ (x : Reader) (ws : List ℕ) (b : Bool) (k : b ≡ belongs x ws) where
  pub unfed_reader : not b ≡ true → (piece : List ℕ) → x ≡ fed_reader x ws piece
  unfolding fed_reader
  unfed_reader n piece = refused b _ _ _ k n

  pub unfed_table : not b ≡ true → (piece : List ℕ) → ws ≡ fed_table x ws piece
  unfolding fed_table
  unfed_table n piece = refused b _ _ _ k n

module _ (x : Reader) (ws : List ℕ) (t : belongs x ws ≡ true) where
  parts : (proper x.line ≡ true) × (stage_held x.reading.stage x.reading ws ≡ true)
  unfolding belongs
  parts = (and-eq-true_iff (proper x.line) (stage_held x.reading.stage x.reading ws)).0 t

  proper_parts : (leb x.line.count most_bytes ≡ true) × (zeros (drop x.line.count x.line.bytes) ≡ true)
  proper_parts = (and-eq-true_iff (leb x.line.count most_bytes) (zeros (drop x.line.count x.line.bytes))).0 parts.0

  line_of : length x.line.bytes ≡ most_bytes → x.line ≡ so_far (first_bytes x.line)
  line_of l = of_first x.line l (leb-true x.line.count most_bytes proper_parts.0) proper_parts.1

  pub belongs_sound : Sound x.reading.stage x.reading ws
  belongs_sound = (stage_is x.reading ws x.reading.stage).only parts.1

-- ---- a turn

-- the line so far is that of the bytes `come`, and `left` is left of the piece
pub record Turned (x : Reader) (words piece table : List ℕ) (reading : Reading) (line : LineSoFar) (left : List ℕ) : Type 0 where
  pub within : length left ≤ length piece
  pub come : List ℕ
  pub so_far_lem : line ≡ so_far come
  pub same : length table ≡ length words
  pub sound : Sound reading.stage reading table
  pub file : take_lines (record { reading = reading; words = table }) (lines_from come left) ≡ fed_file x words piece
  pub rest : take most_bytes (rest_from come left) ≡ take most_bytes (rest_from (first_bytes x.line) piece)

pub turn_none : (x : Reader) (ws piece : List ℕ) (b : Bool) → b ≡ belongs x ws → not b ≡ false → length x.line.bytes ≡ most_bytes →
    Turned x ws piece ws x.reading x.line piece
turn_none x ws piece b k n l =
    let t = told b _ k n in
    record {
      within = omega arith;
      come = first_bytes x.line;
      so_far_lem = line_of x ws t l;
      same = refl;
      sound = belongs_sound x ws t;
      file = refl;
      rest = refl;
    }

-- the bytes up to the next feed, and those behind it
module _ (left : List ℕ) (at : Option ℕ) (e : at ≡ feed_at left) (n : ℕ) (is : at ≡ Some n) where
  pub end_within : n < length left
  end_within =
      let found = feed_some left at e n is in
      omega (arith, found.1, behind_less left found.0)

  pub part_from : length (take n left) ≡ n
  part_from = length-take-le n left (omega (arith, end_within))

  pub end_fits : (piece : List ℕ) → length left ≤ length piece → Fits w64 (length piece) → Fits w64 (n + 1)
  end_fits piece l f = record { fits = omega (arith, f.fits, end_within) }

  rest_all : take (length left - (n + 1)) (drop (n + 1) left) ≡ drop (n + 1) left
  rest_all = take_all (length left - (n + 1)) (drop (n + 1) left) (omega (arith, length-drop (n + 1) left))

  pub rest_less : length (take (length left - (n + 1)) (drop (n + 1) left)) < length left
  rest_less = omega (arith, ap length rest_all, length-drop (n + 1) left, end_within)

  part_is : take n left ≡ first_line left
  part_is = ap (λ (k : ℕ). take k left) (feed_some left at e n is).1 ∙ line_is left

  behind : take (length left - (n + 1)) (drop (n + 1) left) ≡ behind_first left
  behind = let found = feed_some left at e n is in rest_all ∙ ap (λ (k : ℕ). drop (k + 1) left) found.1 ∙ behind_is left found.0

  module _ (x : Reader) (ws piece t : List ℕ) (r : Reading) (l : LineSoFar) (w : Turned x ws piece t r l left) (m : LineSoFar)
      (k : (come : List ℕ) → l ≡ so_far come → m ≡ so_far (come ++ take n left)) where
    ended : m ≡ so_far (w.come ++ first_line left)
    ended = k w.come w.so_far_lem ∙ ap (λ (bs : List ℕ). so_far (w.come ++ bs)) part_is

    pub turn_ended : (line : List ℕ) → line ≡ first_bytes m → (z : LineSoFar) → z ≡ so_far [] → (y : Reading) (ts : List ℕ) → length ts ≡ length t →
        record { reading = y; words = ts } ≡ take_line (record { reading = r; words = t }) line → Turned x ws piece ts y z (take (length left - (n + 1)) (drop (n + 1) left))
    unfolding take_lines
    turn_ended line f z none y ts s j =
        let there = (feed_some left at e n is).0 in
        let judged : ◌≡◌ {A = File} (record { reading = y; words = ts }) (take_line (record { reading = r; words = t }) (w.come ++ first_line left)) =
        j ∙
        ap (take_line (record { reading = r; words = t })) (f ∙ ap first_bytes ended ∙ first_bytes_lem (w.come ++ first_line left)) ∙
        first_line_lem (record { reading = r; words = t }) (w.come ++ first_line left)
        in
        record {
          within = omega (arith, w.within, rest_less);
          come = [];
          so_far_lem = none;
          same = s ∙ w.same;
          sound =
              subst⁻¹ (λ (f : File). Sound f.reading.stage f.reading f.words) judged
              (line_sound (length t) (record { reading = r; words = t }) (w.come ++ first_line left) (w.sound, refl)).0;
          file =
              ap₂ (λ (f : File) (bs : List ℕ). take_lines f (lines_from [] bs)) judged behind ∙
              ap (take_lines (record { reading = r; words = t })) (sym (lines_first w.come left there)) ∙
              w.file;
          rest = ap (λ bs. take most_bytes (rest_from [] bs)) behind ∙ ap (take most_bytes) (sym (rest_first w.come left there)) ∙ w.rest;
        }

-- ---- the piece is fed: no feed is left

-- and no byte either: the line so far is that of what has come
pub nothing_left : (left : List ℕ) → true ≡ eqb (length left) 0 → (l : LineSoFar) (come : List ℕ) → l ≡ so_far come → l ≡ so_far (come ++ left)
nothing_left [] e l come k = k ∙ ap so_far (sym (append-nil come))
nothing_left (b ∷ bs) e l come k = absurd (omega (arith, eqb-true (suc (length bs)) 0 (sym e)))

module _ (left : List ℕ) (at : Option ℕ) (e : at ≡ feed_at left) (none : at ≡ None) (x : Reader) (ws piece t : List ℕ) (r : Reading) (l : LineSoFar)
    (w : Turned x ws piece t r l left) where
  bare : (lines_from w.come left ≡ []) × (rest_from w.come left ≡ w.come ++ left)
  bare = no_line w.come left (unfed_unended left (feed_none left at e none))

  last_file : ◌≡◌ {A = File} (record { reading = r; words = t }) (fed_file x ws piece)
  unfolding take_lines
  last_file = ap (take_lines (record { reading = r; words = t })) (sym bare.0) ∙ w.file

  module _ (b : Bool) (k : b ≡ belongs x ws) (n : not b ≡ false) where
    pub turned_reader : (m : LineSoFar) → ((come : List ℕ) → l ≡ so_far come → m ≡ so_far (come ++ left)) → ◌≡◌ {A = Reader} (record { reading = r; line = m }) (fed_reader x ws piece)
    unfolding fed_reader
    turned_reader m g =
        let last_line : m ≡ so_far (rest_from (first_bytes x.line) piece) =
        g w.come w.so_far_lem ∙
        same_line (w.come ++ left) (rest_from (first_bytes x.line) piece) (ap (take most_bytes) (sym bare.1) ∙ w.rest)
        in
        allowed b _ _ _ _ k n (ap₂ (λ (f : File) (y : LineSoFar). record { reading = f.reading; line = y }) last_file last_line)

    pub turned_table : t ≡ fed_table x ws piece
    unfolding fed_table
    turned_table = allowed b _ _ _ _ k n (ap (λ (f : File). f.words) last_file)
