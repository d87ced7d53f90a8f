-- People whose misspelled codes are left out are refused as the people themselves, with the same number, and are the same people where none is refused;
-- and their words in lent memory hold them. By induction on the people. Assumes nothing.
use Prim.Native.Nat.{ℕ}
use mathlib.Core.Path.{◌≡◌, refl, ap, ap₂, ◌∙◌}
use mathlib.Core.Bool.{Bool, true, false, not, ◌||◌, cond}
use mathlib.Core.List.{List, [], ◌∷◌, ◌++◌, map}
use native.Mathlib.Omega.{arith}
use lib.Dec.{ltb}
use lib.ListN.{length, drop, length-map, get_or-map}
use Rattle.model.specs.Words.{any, joined, groups, written_over}
use Rattle.model.specs.Codes.{spelled, padded, packed, unpadded, unpacked}
use Rattle.model.specs.Rosters.{Person, nobody, out_of_range, roster_number, person_of, words_of_person, roster_of, roster_words}
use Rattle.laws.proofs.Tests.{by_test, passed}
use Rattle.laws.proofs.Lists.{any-map, groups-joined}
use Rattle.laws.proofs.Codes.{code_at_words}
use Rattle.cards.specs.People.{spelled_only, readable}

-- ---- the number

abbrev misspelled : Person → Bool
misspelled p = not (spelled p.code)

pub same_spelling : (code : List ℕ) → spelled (spelled_only code) ≡ spelled code
unfolding spelled
same_spelling code = by_test (spelled code) (λ p. rw p p) (λ q. rw q refl)

any_misspelled : (people : List Person) → any misspelled (map readable people) ≡ any misspelled people
any_misspelled [] = refl
any_misspelled (p ∷ people) = ap₂ (λ (b c : Bool). not b || c) (same_spelling p.code) (any_misspelled people)

pub readable_all : (people : List Person) → any misspelled people ≡ false → map readable people ≡ people
readable_all [] h = refl
readable_all (p ∷ people) h =
    let facts = simp passed at h in
    rw facts.0 (ap (λ (r : List Person). p ∷ r) (readable_all people facts.1))

same_range : (types : ℕ) (people : List Person) → out_of_range types (map readable people) ≡ out_of_range types people
unfolding out_of_range
same_range types people = rw (length-map people readable, any-map readable (λ p. not (ltb p.type types)) people)

pub same_number : (types : ℕ) (people : List Person) → roster_number types (map readable people) ≡ roster_number types people
unfolding roster_number
same_number types people =
    by_test (any misspelled people)
    (λ p. rw (same_range types people, any_misspelled people, p))
    (λ q. rw (readable_all people q) refl)

none_bad : (out bad : Bool) (n : ℕ) → cond out 3 (cond bad 4 n) ≡ 0 → bad ≡ false
none_bad true bad n h = absurd (omega arith)
none_bad false true n h = absurd (omega arith)
none_bad false false n h = refl

pub same_people : (types : ℕ) (people : List Person) → roster_number types people ≡ 0 → map readable people ≡ people
unfolding roster_number
same_people types people h = readable_all people (none_bad (out_of_range types people) (any misspelled people) _ h)

-- ---- the words

no_code : (type : ℕ) → person_of (words_of_person (record { type = type; code = [] })) ≡ record { type = type; code = [] }
unfolding padded packed unpadded unpacked
no_code type = refl

pub words_hold : (p : Person) → person_of (words_of_person (readable p)) ≡ readable p
words_hold p =
    by_test (spelled p.code)
    (λ good. rw good (ap (λ (c : List ℕ). record { type = p.type; code = c }) (code_at_words p.code [] good)))
    (λ bad. rw bad (no_code p.type))

words_hold_all : (people : List Person) → map person_of (map words_of_person (map readable people)) ≡ map readable people
words_hold_all [] = refl
words_hold_all (p ∷ people) = ap₂ (λ (q : Person) (r : List Person). q ∷ r) (words_hold p) (words_hold_all people)

pub roster_held : (people : List Person) (words : List ℕ)
    → roster_of (length people) (written_over (roster_words (map readable people)) words) ≡ map readable people
unfolding roster_of roster_words written_over
roster_held people words =
    let rows = map words_of_person (map readable people) in
    let n : length rows ≡ length people = length-map (map readable people) words_of_person ∙ length-map people readable in
    let cut : groups 4 (length rows) (joined rows ++ drop (length (joined rows)) words) ≡ rows =
    groups-joined 4 rows (words_of_person nobody) (drop (length (joined rows)) words)
    (λ i l. ap length (get_or-map words_of_person (map readable people) i nobody)) in
    rw (n, words_hold_all people) at (ap (map person_of) cut)
