-- Engine: the only plan that can signal a row, sought "in the whole width, then in each half, down to one segment" (02, T-07), its tests, and
-- the plan as a value that the code makes. The contracts of the code cite it; nobody has to believe it: `Worked.antt` says what it is, and
-- `proofs/Worked.antt` shows it.
use Rattle.std.specs.Prelude.{
  ◌≡◌,
  Bool,
  true,
  cond,
  not,
  ◌||◌,
  ◌&&◌,
  List,
  ℕ,
  zero,
  suc,
  ◌+◌,
  ◌-◌,
  ◌*◌,
  ◌/◌,
  ◌%◌,
  ◌^◌,
  ◌≤◌,
  ◌<◌,
  ltb,
  leb,
  eqb,
  length,
  replicate,
}
use Rattle.answer.specs.Answer.{no, refuse_if, ◌or◌}
use Rattle.answer.specs.Least.{least}
use Rattle.answer.specs.Answer.{Outcome}
use Rattle.std.specs.Prelude.{Ok, Err}
use Rattle.answer.specs.Lists.{filled, at}
use Rattle.answer.specs.declared.Refusal.TheVariants.{NoPlan, OverEightFields}
use Rattle.resource.specs.Values.{fields_of}
use Rattle.kinds.specs.Kinds.{none, span, takes}
use Rattle.kinds.specs.Fields.{together, shared, fields_to}
use Rattle.segments.specs.Engine.{fitting}
use Rattle.roles.specs.declared.Settled.{Settled}
use Rattle.roles.specs.Engine.{Role, settle_of, kind_in}
use Rattle.spans.specs.Engine.{part_plan}
use Rattle.plan.specs.Answers.{segments, part_end}
use Rattle.plan.specs.declared.Plan.{Plan}
use Rattle.plan.specs.declared.Rest.{Rest}

-- ---- a value that no resource of a segment has: "the published values from 88 up" (02, T-07)
unfoldable pub wider : ℕ → Bool
wider v = eqb (v / 8) 11 || leb 128 v

-- the row has one
unfoldable pub any_wider : List ℕ → Bool
any_wider row = ltb (least (λ p. wider (at row p)) (length row)) (length row)

-- the only plan that can signal a row: sought in the whole width
unfoldable pub only_plan : (ℕ → ℕ) → ℕ → ℕ
only_plan row p = part_plan 16 row p

-- ---- the tests of `Signals`, for the positions from a up to b
-- position q is one of them, and o gives it to c
unfoldable pub given : (ℕ → ℕ) → ℕ → ℕ → ℕ → ℕ → Bool
given o a b c q = leb a q && (ltb q b && eqb (o q) c)

-- place j of c is not its own, or given to it
abbrev pub place_given : (ℕ → ℕ) → ℕ → ℕ → ℕ → ℕ → ℕ → Bool
place_given o a b c p j = not (takes c j) || given o a b c (span c * (p / span c) + j)

-- every place of the resource of kind c at position p is given to it
unfoldable pub entirely : (ℕ → ℕ) → ℕ → ℕ → ℕ → ℕ → Bool
entirely o a b c p = eqb (least (λ j. not (place_given o a b c p j)) (span c)) (span c)

-- what o gives position p to is right
unfoldable pub is_right : (ℕ → ℕ) → (ℕ → ℕ) → ℕ → ℕ → ℕ → Bool
is_right o row a b p = fitting (o p) p (row p) && entirely o a b (o p) p

-- what the code knows at position p of the one before, if that is one of them too: to what it is given, c, and that it is right
pub record Before (c : ℕ) (o row : ℕ → ℕ) (a b p : ℕ) : Type 0 where
  pub at_first : p ≤ a → c ≡ none
  pub at_later : a < p → (c ≡ o (p - 1)) × (is_right o row a b (p - 1) ≡ true)

-- none of the positions from a up to b fails the test
unfoldable pub every_from : (ℕ → Bool) → ℕ → ℕ → Bool
every_from fails a b = eqb (least (λ j. fails (a + j)) (b - a)) (b - a)

-- the positions of the k-th part of n are given to what the search says
pub record GivenTo (kinds row : List ℕ) (n k : ℕ) : Type 0 where
  pub given_to : (q : ℕ) → n * k ≤ q → q < part_end row n k → at kinds q ≡ part_plan n (at row) q

-- the k-th part of n positions is right everywhere
unfoldable pub part_right : List ℕ → ℕ → ℕ → Bool
part_right row n k = every_from (λ p. not (is_right (part_plan n (at row)) (at row) (n * k) (part_end row n k) p)) (n * k) (part_end row n k)

-- segment s lies in a part that is right
unfoldable pub held_by : List ℕ → ℕ → Bool
held_by row s = part_right row 16 (s / 4) || (part_right row 8 (s / 2) || part_right row 4 s)

-- the lowest segment that does not; the number of segments where there is none
unfoldable pub first_unheld : List ℕ → ℕ
first_unheld row = least (λ s. not (held_by row s)) (segments row)

-- the resource that a position is given to is over eight
abbrev pub over_at : List ℕ → ℕ → Bool
over_at row p = ltb 8 (together (only_plan (at row) p) (at row) p)

-- the lowest position of a resource over eight; the number of positions where there is none
unfoldable pub first_over : List ℕ → ℕ
first_over row = least (over_at row) (length row)

-- 7 and 8: the answer of `Worked.antt` (`proofs/Worked.antt`: `outcome_is`)
unfoldable pub plan_outcome : List ℕ → Outcome
plan_outcome row =
    refuse_if (ltb (first_unheld row) (segments row)) (NoPlan (first_unheld row))
    or refuse_if (ltb (first_over row) (length row)) (OverEightFields (first_over row / 4))

-- the bit of each of the first n positions is set whose User fields share their resource
unfoldable pub shared_to : List ℕ → ℕ → ℕ
shared_to row zero = 0
shared_to row (suc n) = shared_to row n + cond (shared (only_plan (at row)) (at row) n) (2 ^ n) 0

-- to what each position is given; 0 past the row
unfoldable pub kinds_of : List ℕ → List ℕ
kinds_of row = filled (only_plan (at row)) (length row) (replicate 16 0)

-- a row that passes 7 and 8: the kinds; which positions' fields share their resource; the channels' fields
unfoldable pub passed_plan : List ℕ → Plan
passed_plan row = record {
  outcome = Ok tt;
  kinds = kinds_of row;
  shared = shared_to row (length row);
  fields1 = fields_to 1 (at row) (length row);
  fields2 = fields_to 2 (at row) (length row);
}

-- of one that is refused, the refusal alone
unfoldable pub no_plan : Outcome → Plan
no_plan o = record { outcome = o; kinds = replicate 16 0; shared = 0; fields1 = 0; fields2 = 0 }

abbrev pub plan_at : Outcome → List ℕ → Plan
plan_at (Ok u) row = passed_plan row
plan_at (Err x) row = no_plan (Err x)

unfoldable pub plan_of : List ℕ → Plan
plan_of row = plan_at (plan_outcome row) row

-- a plan, of what is told of it and of its kinds
unfoldable pub with_kinds : Rest → List ℕ → Plan
with_kinds t kinds = record { outcome = t.outcome; kinds = kinds; shared = t.shared; fields1 = t.fields1; fields2 = t.fields2 }

-- the same, of an outcome: a row that is refused has none
abbrev pub plan_from : Outcome → Rest → List ℕ → Plan
plan_from (Ok u) t kinds = with_kinds t kinds
plan_from (Err x) t kinds = no_plan (Err x)

-- what is told of the row is right, and of one that passes with these kinds its plan
pub record Tells (row : List ℕ) (t : Rest) (kinds : List ℕ) : Type 0 where
  pub answers : t.outcome ≡ plan_outcome row
  pub plans : t.outcome ≡ Ok tt → with_kinds t kinds ≡ plan_of row

-- ---- at one glance, by the roles of the values: `proofs/Told.antt` shows that what they tell is the row's plan
-- the roles of the row's first m values are entered in a list, and the others stand
pub record Cast (row : List ℕ) (m : ℕ) (before after : List ℕ) : Type 0 where
  pub cast : (p : ℕ) → p < m → Role (at row p) (fields_of (at row p)) (at after p)
  pub stands : (p : ℕ) → m ≤ p → at after p ≡ at before p
  pub as_long : length after ≡ length before

pub record Low (roles : List ℕ) : Type 0 where
  pub low : (p : ℕ) → at roles p < 2 ^ 60

-- what the roles of segment s tell
unfoldable pub segment_of : (ℕ → ℕ) → ℕ → Settled
segment_of r s = settle_of (r (4 * s + 0)) (r (4 * s + 1)) (r (4 * s + 2)) (r (4 * s + 3))

unfoldable pub glance_kind : (ℕ → ℕ) → ℕ → ℕ
glance_kind r p = kind_in (segment_of r (p / 4)).kinds (p % 4)

unfoldable pub glance_marks : (ℕ → ℕ) → ℕ → ℕ
glance_marks r zero = 0
glance_marks r (suc s) = glance_marks r s + (segment_of r s).marks * 2 ^ (4 * s)

-- the segment of the refusal with 8 that marks of x tell, four bits for each segment from 65536 on, 1 where its roles do not tell and 2 where a
-- resource is over eight: the lowest with a 2, where none has a 1; else 4
unfoldable pub over_of : ℕ → ℕ
over_of h =
    cond (((eqb (h % 2) 1 || eqb (h / 16 % 2) 1) || eqb (h / 256 % 2) 1) || eqb (h / 4096 % 2) 1) 4
    (cond (eqb (h % 16) 0) (cond (eqb (h / 16 % 16) 0) (cond (eqb (h / 256 % 16) 0) (cond (eqb (h / 4096 % 16) 0) 4 3) 2) 1) 0)

abbrev pub over_in : ℕ → ℕ
over_in x = over_of (x / 65536)

-- the roles of the places i and i + 2 of the first s segments
unfoldable pub role_sum : ℕ → (ℕ → ℕ) → ℕ → ℕ
role_sum i r zero = 0
role_sum i r (suc s) = role_sum i r s + (r (4 * s + i) + r (4 * s + (i + 2)))

unfoldable pub glance_of : ℕ → List ℕ → Plan
glance_of n roles = record {
  outcome = Ok tt;
  kinds = filled (glance_kind (at roles)) (4 * ((n + 3) / 4)) (replicate 16 0);
  shared = glance_marks (at roles) ((n + 3) / 4);
  fields1 = role_sum 0 (at roles) ((n + 3) / 4) % 256;
  fields2 = role_sum 1 (at roles) ((n + 3) / 4) % 256;
}

-- the same, of a row of one value that may stand alone
unfoldable pub lone_of : ℕ → Plan
lone_of r = record { outcome = (Ok tt); kinds = replicate 16 0; shared = r / 256 % 2; fields1 = r % 256; fields2 = 0 }
