-- How long the lines are, by the longest of each letter, and that the batch program's text has room in what the sizes allow.
-- Assumes nothing.
use Prim.Native.Nat.{ℕ, suc, ◌+◌, ◌*◌, ◌≤◌, ◌<◌}
use Prim.Native.String.{String}
use mathlib.Core.Bool.{Bool, true, false, not, cond, ◌&&◌}
use mathlib.Core.List.{List, [], ◌∷◌, ◌++◌, map}
use mathlib.Core.Path.{◌≡◌}
use native.Mathlib.Omega.{arith}
use borrow.Author.Tests.{ltb-true, ltb-false}
use lib.Dec.{leb, ltb, eqb}
use lib.ListN.{length, get_or, length-append, get_or-eq_default}
use Rattle.model.specs.declared.Command.{Command}
use Rattle.model.specs.Words.{joined, numbers_from, text}
use Rattle.model.specs.Codes.{spelled}
use Rattle.model.specs.Schemes.{Scheme, is_create, command_at}
use Rattle.model.specs.Rosters.{Person, nobody, type_at}
use Rattle.model.specs.Forms.{cell_at, held}
use Rattle.model.specs.Stores.{Design, no_design, exists, design_at}
use Rattle.model.specs.Requests.{Request, two_people, create_number, other_number, request_number, requested, batch_numbers, count_done}
use Rattle.model.specs.Questions.{shown}
use Rattle.model.specs.Lines.{decimal, hexadecimal, line, line_x, lines_r, line_p, lines_d, line_e}
use Rattle.laws.proofs.Tests.{by_test}
use Rattle.laws.proofs.Lists.{Each, those-length, length-numbers}
use Rattle.laws.proofs.Codes.{spelling}
use Rattle.lines.proofs.Figures.{length-decimal, length-decimal_1, length-decimal_below, length-hexadecimal}

-- ---- one line

-- a letter, each word after a space, and the newline
abbrev pub spaced : List (List ℕ) → ℕ
spaced [] = 1
spaced (word ∷ words) = 1 + length word + spaced words

length-spaced : (words : List (List ℕ)) → length (joined (map (λ word. text " " ++ word) words)) + 1 ≡ spaced words
length-spaced [] = omega arith
length-spaced (word ∷ words) =
    let first = text " " ++ word in
    omega (arith, length-append first (joined (map (λ word. text " " ++ word) words)), length-append (text " ") word, length-spaced words)

pub line_length : (letter : String) (words : List (List ℕ)) → length (line letter words) ≡ length (text letter) + spaced words
unfolding line
line_length letter words = simp (length-append) (omega (arith, length-spaced words))

module _ (n : ℕ) where
  pub one_figure : n < 10 → length (decimal n) ≡ 1
  one_figure h = length-decimal_1 n h

  pub two_figures : n < 100 → length (decimal n) ≤ 2
  two_figures h = length-decimal_below n 2 (omega arith) h

  pub three_figures : n < 1000 → length (decimal n) ≤ 3
  three_figures h = length-decimal_below n 3 (omega arith) h

pub refusal_short : (n : ℕ) → length (line_x n) ≤ 7
unfolding line_x
refusal_short n = omega (arith, line_length "X" (decimal n ∷ []), length-decimal n)

-- ---- answers: "R 255 14"

either_le : (b : Bool) (m n k : ℕ) → m ≤ k → n ≤ k → cond b m n ≤ k
either_le true m n k h l = h
either_le false m n k h l = l

create_small : (designs : List Design) (code : List ℕ) → create_number designs code ≤ 14
unfolding create_number
create_small designs code = either_le (exists code designs) 10 _ 14 (omega arith) (either_le (leb 64 (length designs)) 11 0 14 (omega arith) (omega arith))

other_small : (c : Command) (designs : List Design) (source : ℕ) (code : List ℕ) → other_number c designs source code ≤ 14
unfolding other_number
other_small c designs source code =
    let d = design_at code designs in
    either_le (not (exists code designs)) 12 _ 14 (omega arith)
    (either_le (not (eqb d.kind c.kind)) 13 _ 14 (omega arith) (either_le (not (held c source d.cells)) 14 0 14 (omega arith) (omega arith)))

pub number_small : (s : Scheme) (people : List Person) (designs : List Design) (q : Request) → request_number s people designs q ≤ 14
unfolding request_number
number_small s people designs q =
    let c = command_at s q.command in
    either_le (not (ltb q.command (length s.commands))) 6 _ 14 (omega arith)
    (either_le (not (ltb q.source (length people) && ltb q.destination (length people))) 7 _ 14 (omega arith)
    (either_le (not (eqb (type_at people q.source) c.source && eqb (type_at people q.destination) c.destination)) 8 _ 14 (omega arith)
    (either_le (two_people c q.source q.destination) 9 _ 14 (omega arith)
    (either_le (not (spelled q.code)) 4 _ 14 (omega arith)
    (either_le (is_create c) _ _ 14 (create_small designs q.code) (other_small c designs q.source q.code))))))

pub length-answers : (s : Scheme) (people : List Person) (designs : List Design) (k : ℕ) (qs : List Request) → k + length qs ≤ 256
    → length (lines_r k (batch_numbers s people designs qs)) ≤ length qs * 9
unfolding lines_r batch_numbers
length-answers s people designs k [] h = omega arith
length-answers s people designs k (q ∷ qs) h =
    let n = request_number s people designs q in
    let one = line "R" (decimal k ∷ decimal n ∷ []) in
    let rest = length-answers s people (requested s people designs q) (suc k) qs (omega arith) in
    let short : length one ≤ 9 =
    omega (arith, line_length "R" (decimal k ∷ decimal n ∷ []), three_figures k (omega arith), two_figures n (omega (arith, number_small s people designs q))) in
    omega (arith, length-append one (lines_r (suc k) (batch_numbers s people (requested s people designs q) qs)))

-- ---- designs: "D" and "P"

module _ {A : Type 0} (f : A → List ℕ) (most : ℕ) where
  length-joined_all : (xs : List A) → ((x : A) → length (f x) ≤ most) → length (joined (map f xs)) ≤ length xs * most
  length-joined_all [] h = omega arith
  length-joined_all (x ∷ xs) h = omega (arith, length-append (f x) (joined (map f xs)), h x, length-joined_all xs h)

  pub length-joined_each : (xs : List A) (d : A) → Each (λ x. length (f x) ≤ most) xs d → length (joined (map f xs)) ≤ length xs * most
  length-joined_each [] d h = omega arith
  length-joined_each (x ∷ xs) d h =
      omega (arith, length-append (f x) (joined (map f xs)), h 0 (omega arith), length-joined_each xs d (λ i l. h (suc i) (omega arith)))

module _ (people : List Person) (spelt : Each (λ p. spelled p.code ≡ true) people nobody) where
  code_short : (p : ℕ) → length (get_or people p nobody).code ≤ 12
  code_short p =
      by_test (ltb p (length people))
      (λ l. (spelling (get_or people p nobody).code (spelt p (ltb-true p (length people) l))).short)
      (λ q. let e : get_or people p nobody ≡ nobody = get_or-eq_default people nobody {n = p} (ltb-false p (length people) q) in rw e (omega arith))

  length-person : (cells : List ℕ) (p : ℕ) → length (line_p people cells p) ≤ 24
  unfolding line_p
  length-person cells p =
      let code = (get_or people p nobody).code in
      let rights = cell_at cells p in
      omega (arith, line_length "P" (code ∷ hexadecimal rights ∷ []), code_short p, length-hexadecimal rights)

  length-shown : (n : ℕ) (cells : List ℕ) → length (shown n cells) ≤ n
  unfolding shown
  length-shown n cells = omega (arith, those-length (λ p. not (eqb (cell_at cells p) 0)) (numbers_from 0 n), length-numbers 0 n)

  pub length-design : length people ≤ 32 → (d : Design) → spelled d.code ≡ true → d.kind < 10 → length (lines_d people d) ≤ 785
  unfolding lines_d
  length-design few d named kind =
      let own = line "D" (d.code ∷ decimal d.kind ∷ []) in
      let who = shown (length people) d.cells in
      let access = joined (map (line_p people d.cells) who) in
      omega (
        arith,
        length-append own access,
        line_length "D" (d.code ∷ decimal d.kind ∷ []),
        one_figure d.kind kind,
        (spelling d.code named).short,
        length-joined_all (line_p people d.cells) 24 who (length-person d.cells),
        length-shown (length people) d.cells,
      )

  pub length-designs : length people ≤ 32 → (designs : List Design) → Each (λ d. spelled d.code ≡ true) designs no_design
      → Each (λ d. d.kind < 10) designs no_design → length (joined (map (lines_d people) designs)) ≤ length designs * 785
  length-designs few designs named kinds =
      length-joined_each (lines_d people) 785 designs no_design (λ i l. length-design few (get_or designs i no_design) (named i l) (kinds i l))

-- ---- "E 256 256"

pub length-end : (numbers : List ℕ) → length numbers ≤ 256 → length (line_e numbers) ≤ 10
unfolding line_e
length-end numbers h =
    omega (
      arith,
      line_length "E" (decimal (length numbers) ∷ decimal (count_done numbers) ∷ []),
      three_figures (length numbers) (omega arith),
      three_figures (count_done numbers) (omega (arith, those-length (λ n. eqb n 0) numbers)),
    )
