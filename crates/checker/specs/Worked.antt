-- Worked cases, with the report of each.
use Rattle.std.specs.Prelude.{◌≡◌, ℕ, ◌+◌, ◌-◌, ◌/◌, ◌%◌, List, [], ◌∷◌, ◌++◌, map, length, take, replicate, pos, codes}
use Rattle.std.specs.List.{AllByRecursion, range_with_len}
use Rattle.std.proofs.Common.{inl, inr}
use Rattle.calculus.specs.States.{fresh}
use Rattle.calculus.specs.Trails.{Entry}
use Rattle.calculus.specs.Trails.Origin.{Chosen}
use Rattle.calculus.specs.Trails.Content.{Literal}
use Rattle.files.specs.declared.records.FileKind.TheVariants.{Case, Log}
use Rattle.piles.specs.Piles.{congruent_linear}
use Rattle.verdicts.specs.Outcomes.{Taken, take_file}
use Rattle.checker.specs.Reports.{report_by, report_of_frame}

-- a file of these records, each a kind and a body: the version byte, and before each record its length in two bytes
abbrev pub records : List (List ℕ) → List ℕ
records [] = []
records (r ∷ rs) = length r / 256 ∷ length r % 256 ∷ r ++ records rs

abbrev pub file : List (List ℕ) → List ℕ
file rs = 1 ∷ records rs

-- a number below 256, and the negative of one, in four bytes; and the literal that denies a number, in one
abbrev pub word : ℕ → List ℕ
word n = 0 ∷ 0 ∷ 0 ∷ n ∷ []

abbrev pub minus : ℕ → List ℕ
minus n = 255 ∷ 255 ∷ 255 ∷ (256 - n) ∷ []

abbrev pub denied : ℕ → ℕ
denied n = 256 - n

-- the records of a case and of a log, by their calls
abbrev pub counts : ℕ → ℕ → List ℕ
counts switches measures = 1 ∷ switches ∷ measures ∷ []

-- f(i) = j, for one function f
abbrev pub maps : ℕ → ℕ → List ℕ
maps i j = 2 ∷ 3 ∷ 7 ∷ 1 ∷ i ∷ j ∷ []

-- m(i) < c, −m(i) < −c, m(i) = c, m(i) = m(j), and m1 + m2 ≤ 60
abbrev pub below : ℕ → ℕ → List ℕ
below i c = 3 ∷ 1 ∷ 1 ∷ i ∷ word 1 ++ word c

abbrev pub above : ℕ → ℕ → List ℕ
above i c = 3 ∷ 1 ∷ 1 ∷ i ∷ minus 1 ++ minus c

abbrev pub is : ℕ → ℕ → List ℕ
is i c = 3 ∷ 3 ∷ 1 ∷ i ∷ word 1 ++ word c

abbrev pub equal : ℕ → ℕ → List ℕ
equal i j = 3 ∷ 3 ∷ 2 ∷ i ∷ word 1 ++ j ∷ minus 1 ++ word 0

abbrev pub fit_in_60 : List ℕ
fit_in_60 = 3 ∷ 2 ∷ 2 ∷ 1 ∷ word 1 ++ 2 ∷ word 1 ++ word 60

abbrev pub rule : List ℕ → List ℕ
rule literals = 4 ∷ literals

abbrev pub seal : List ℕ
seal = 10 ∷ word 1

abbrev pub lemma_of : List ℕ → List ℕ → List ℕ
lemma_of literals hint = 11 ∷ length literals ∷ literals ++ hint

abbrev pub choose : ℕ → List ℕ
choose literal = 12 ∷ literal ∷ []

abbrev pub set : ℕ → ℕ → List ℕ
set measure numerator = 13 ∷ measure ∷ word numerator

abbrev pub propagate : ℕ → ℕ → List ℕ
propagate clause literal = 14 ∷ clause ∷ literal ∷ []

abbrev pub read : ℕ → List ℕ
read number = 15 ∷ number ∷ []

abbrev pub conflict : ℕ → List ℕ
conflict clause = 16 ∷ clause ∷ []

abbrev pub resolve : ℕ → List ℕ
resolve number = 17 ∷ number ∷ []

abbrev pub jump : ℕ → List ℕ
jump literal = 18 ∷ literal ∷ []

abbrev pub concede : List ℕ
concede = 19 ∷ []

abbrev pub claim : List ℕ
claim = 20 ∷ []

abbrev pub abandon : List ℕ
abandon = 21 ∷ []

-- over congruence over linear: a case, a log and their report
pub record Example : Type 0 where
  pub case : List ℕ
  pub log : List ℕ
  pub report : List ℕ

-- A wall of 60, with two parts and one switch: 2 is m1 + m2 ≤ 60, 3 is m1 < 50, 4 is m2 < 12. The parts fit, the first is at
-- least 50, and the second at least 12 if the switch is off.
abbrev pub wall : List (List ℕ)
wall = counts 1 2 ∷ fit_in_60 ∷ below 1 50 ∷ below 2 12 ∷ rule (2 ∷ []) ∷ rule (denied 3 ∷ []) ∷ rule (1 ∷ denied 4 ∷ []) ∷ []

-- also if it is on
abbrev pub full_wall : List ℕ
full_wall = file (wall ++ rule (denied 1 ∷ denied 4 ∷ []) ∷ [])

-- the rules force 2, −3 and, if the switch is on, −4; the three contradict each other by a lemma with these multipliers
abbrev pub wall_log : ℕ → List ℕ
wall_log multiplier =
    file (
    seal ∷ propagate 1 2 ∷ propagate 2 (denied 3) ∷ choose 1 ∷ propagate 4 (denied 4)
    ∷ lemma_of (denied 2 ∷ 3 ∷ 4 ∷ []) (1 ∷ word 1 ++ word 1 ++ word multiplier)
    ∷ conflict 5 ∷ resolve 4 ∷ jump (denied 1) ∷ propagate 3 (denied 4) ∷ conflict 5 ∷ concede ∷ []
    )

-- without the last rule there is an arrangement
abbrev pub wall_values : ℕ → List (List ℕ) → List ℕ
wall_values second more = file (seal ∷ propagate 1 2 ∷ propagate 2 (denied 3) ∷ choose 1 ∷ set 1 50 ∷ set 2 second ∷ more)

-- m1 = 3, m1 < 3, −m1 < −3
abbrev pub three : List ℕ
three = file (counts 0 1 ∷ is 1 3 ∷ below 1 3 ∷ above 1 3 ∷ [])

-- f(m1) = m2, f(m3) = m4; 1 is m1 = m3, 2 is m2 = m4
abbrev pub mapped : List ℕ
mapped = file (counts 0 4 ∷ maps 1 2 ∷ maps 3 4 ∷ equal 1 3 ∷ equal 2 4 ∷ [])

-- a rule of two atoms that the value 3 makes false
abbrev pub two_bounds : List ℕ
two_bounds = file (counts 0 1 ∷ below 1 2 ∷ above 1 5 ∷ rule (1 ∷ 2 ∷ []) ∷ [])

abbrev pub chosen_instead : List ℕ
chosen_instead = file (seal ∷ set 1 3 ∷ read 1 ∷ read 2 ∷ conflict 1 ∷ jump 1 ∷ [])

abbrev pub examples : List Example
examples =
    record { case = full_wall; log = wall_log 1; report = codes "impossible\n" }
    -- the third multiplier 0
    ∷ record { case = full_wall; log = wall_log 0; report = codes "refused 31 file 2 record 6 byte 27 layer 2\n" }
    -- a second part that is too long for the wall, as the trail has it that they fit; and one that is not
    ∷ record { case = file wall; log = wall_values 11 []; report = codes "refused 26 file 2 record 6 byte 30 layer 0\n" }
    ∷ record { case = file wall; log = wall_values 10 (claim ∷ []); report = codes "possible 1\ns1 yes\nm1 50\nm2 10\n" }
    -- a split, and the same without its last part
    ∷ record { case = three; log = file (seal ∷ lemma_of (1 ∷ 2 ∷ 3 ∷ []) (2 ∷ []) ∷ []); report = codes "none\n" }
    ∷ record { case = three; log = file (seal ∷ lemma_of (1 ∷ 2 ∷ []) (2 ∷ []) ∷ []); report = codes "refused 31 file 2 record 2 byte 8 layer 2\n" }
    -- equal arguments have equal results; without them nothing is said; and values that do not keep to it
    ∷ record { case = mapped; log = file (seal ∷ lemma_of (denied 1 ∷ 2 ∷ []) (3 ∷ 1 ∷ 2 ∷ []) ∷ []); report = codes "none\n" }
    ∷ record { case = mapped; log = file (seal ∷ lemma_of (2 ∷ []) (3 ∷ 1 ∷ 2 ∷ []) ∷ []); report = codes "refused 31 file 2 record 2 byte 8 layer 1\n" }
    ∷ record { case = mapped; log = file (seal ∷ set 1 0 ∷ set 2 0 ∷ set 3 0 ∷ set 4 1 ∷ claim ∷ []); report = codes "refused 34 file 2 record 6 byte 40 layer 1\n" }
    -- a jump that chooses a literal in place of the value
    ∷ record { case = two_bounds; log = chosen_instead; report = codes "none\n" }
    -- an empty rule is a conflict at once
    ∷ record { case = file (counts 0 0 ∷ rule [] ∷ []); log = file (seal ∷ conflict 1 ∷ concede ∷ []); report = codes "impossible\n" }
    -- an atom of the log, true of a negative value; and a search that is given up
    ∷ record { case = file (counts 0 1 ∷ []); log = file (seal ∷ (13 ∷ 1 ∷ minus 3) ∷ below 1 2 ∷ read 1 ∷ claim ∷ []); report = codes "possible 1\nm1 -3\n" }
    ∷ record { case = file (counts 0 1 ∷ []); log = file (seal ∷ abandon ∷ []); report = codes "none\n" }
    ∷ []

-- over switches only: one of the two files cannot be read, or one of its records is no call
abbrev pub unreadable : List Example
unreadable =
    -- no version, and the version 2
    record { case = []; log = file []; report = codes "refused 1 file 1 record 0 byte 0 layer 0\n" }
    ∷ record { case = file []; log = 2 ∷ []; report = codes "refused 1 file 2 record 0 byte 0 layer 0\n" }
    -- a length that is cut short, is 0, or goes beyond the end
    ∷ record { case = 1 ∷ 0 ∷ []; log = file []; report = codes "refused 3 file 1 record 1 byte 1 layer 0\n" }
    ∷ record { case = 1 ∷ 0 ∷ 0 ∷ []; log = file []; report = codes "refused 3 file 1 record 1 byte 1 layer 0\n" }
    ∷ record { case = 1 ∷ 0 ∷ 2 ∷ 4 ∷ []; log = file []; report = codes "refused 3 file 1 record 1 byte 1 layer 0\n" }
    -- counts of one byte and of three, and a lemma of fewer literals than it says
    ∷ record { case = file ((1 ∷ 0 ∷ []) ∷ []); log = file []; report = codes "refused 5 file 1 record 1 byte 1 layer 0\n" }
    ∷ record { case = file ((1 ∷ 0 ∷ 0 ∷ 0 ∷ []) ∷ []); log = file []; report = codes "refused 5 file 1 record 1 byte 1 layer 0\n" }
    ∷ record { case = file []; log = file ((11 ∷ 2 ∷ 1 ∷ []) ∷ []); report = codes "refused 5 file 2 record 1 byte 1 layer 0\n" }
    ∷ []

-- the kinds that a case does not have, and those that a log does not have
abbrev pub not_in_case : List ℕ
not_in_case = 0 ∷ range_with_len 5 251

abbrev pub not_in_log : List ℕ
not_in_log = 0 ∷ 1 ∷ 2 ∷ range_with_len 4 6 ++ range_with_len 22 234

-- the report on a case of one record of this kind, without a body
abbrev pub kind_in_case : ℕ → List ℕ
kind_in_case kind = report_by 1 (file ((kind ∷ []) ∷ [])) (file [])

-- and on a log of one, with a body of so many bytes
abbrev pub body_in_log : ℕ → ℕ → List ℕ
body_in_log kind bytes = report_by 1 (file []) (file ((kind ∷ replicate bytes 0) ∷ []))

-- the kinds of a log that have bodies of one length, with that length
abbrev pub lengths_in_log : List (ℕ × ℕ)
lengths_in_log = (10, 4) ∷ (12, 1) ∷ (13, 5) ∷ (14, 2) ∷ (15, 1) ∷ (16, 1) ∷ (17, 1) ∷ (18, 1) ∷ (19, 0) ∷ (20, 0) ∷ (21, 0) ∷ []

-- files of so many bytes: behind the version byte a record of the length 0
abbrev pub long : ℕ → List ℕ
long n = 1 ∷ replicate (n - 1) 0

abbrev pub long_files : List Example
long_files =
    record { case = long 20000; log = file []; report = codes "refused 3 file 1 record 1 byte 1 layer 0\n" }
    ∷ record { case = long 20001; log = file []; report = codes "refused 2 file 1 record 0 byte 0 layer 0\n" }
    ∷ record { case = file []; log = long 40000; report = codes "refused 3 file 2 record 1 byte 1 layer 0\n" }
    ∷ record { case = file []; log = long 40001; report = codes "refused 2 file 2 record 0 byte 0 layer 0\n" }
    -- the version is looked at first
    ∷ record { case = 2 ∷ long 20000; log = file []; report = codes "refused 1 file 1 record 0 byte 0 layer 0\n" }
    ∷ []

-- a case and its log in one frame, the case of fewer than 256 bytes
abbrev pub frame : ℕ → List ℕ → List ℕ → List ℕ
frame theory case log = theory ∷ word (length case) ++ case ++ log

-- an input of four bytes, a case of 20,001 bytes, and a case of more bytes than follow
abbrev pub cut_frames : List (List ℕ × List ℕ)
cut_frames =
    (2 ∷ 0 ∷ 0 ∷ 0 ∷ [], codes "refused 3 file 0 record 0 byte 0 layer 0\n")
    ∷ (2 ∷ 0 ∷ 0 ∷ 78 ∷ 33 ∷ [], codes "refused 2 file 0 record 0 byte 0 layer 0\n")
    ∷ (2 ∷ word 2 ++ file [], codes "refused 3 file 0 record 0 byte 0 layer 0\n")
    ∷ []

abbrev pub then_log : List ℕ → Taken congruent_linear → Taken congruent_linear
then_log log (inl stop) = inl stop
then_log log (inr s) = take_file congruent_linear Log log s

abbrev pub trail_left : Taken congruent_linear → List Entry
trail_left (inl stop) = []
trail_left (inr s) = s.trail

pub record WorkedCasesStand : Type 0 where
  pub reports : AllByRecursion (λ e. report_by 2 e.case e.log ≡ e.report) examples
  pub refusals : AllByRecursion (λ e. report_by 1 e.case e.log ≡ e.report) unreadable
  -- no such kind; and bodies that are too long, too short, and right, so that the call is refused for the phase
  pub case_kinds : map kind_in_case not_in_case ≡ replicate 252 (codes "refused 4 file 1 record 1 byte 1 layer 0\n")
  pub log_kinds : map (λ k. body_in_log k 0) not_in_log ≡ replicate 243 (codes "refused 4 file 2 record 1 byte 1 layer 0\n")
  pub too_long : map (λ p. body_in_log p.0 (p.1 + 1)) lengths_in_log ≡ replicate 11 (codes "refused 5 file 2 record 1 byte 1 layer 0\n")
  pub too_short : map (λ p. body_in_log p.0 (p.1 - 1)) (take 8 lengths_in_log) ≡ replicate 8 (codes "refused 5 file 2 record 1 byte 1 layer 0\n")
  pub right : map (λ p. body_in_log p.0 p.1) lengths_in_log ≡ replicate 11 (codes "refused 20 file 2 record 1 byte 1 layer 0\n")
  pub lengths : AllByRecursion (λ e. report_by 1 e.case e.log ≡ e.report) long_files
  -- over switches only, and over theories that there are not
  pub switches : report_by 1 (file (counts 2 0 ∷ rule (1 ∷ 2 ∷ []) ∷ [])) (file (seal ∷ choose (denied 1) ∷ propagate 1 2 ∷ claim ∷ [])) ≡ codes "possible 1\ns1 no\ns2 yes\n"
  pub others : AllByRecursion (λ n. report_by n (file []) (file []) ≡ codes "refused 6 file 0 record 0 byte 0 layer 0\n") (0 ∷ 3 ∷ [])
  -- in one frame
  pub framed : report_of_frame (frame 2 (file wall) (wall_values 10 (claim ∷ []))) ≡ codes "possible 1\ns1 yes\nm1 50\nm2 10\n"
  pub unframed : AllByRecursion (λ e. report_of_frame e.0 ≡ e.1) cut_frames
  -- after that jump the literal stands alone on the trail, chosen at level 1
  pub chosen : trail_left (then_log chosen_instead (take_file congruent_linear Case two_bounds (fresh congruent_linear))) ≡ record { content = Literal (pos 1) Chosen; level = 1 } ∷ []
