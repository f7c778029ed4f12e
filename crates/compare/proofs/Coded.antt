-- A User field's number stands for what a reading says of it: two numbers differ where the bits or the resources do, and the line made of a
-- number is the difference's (02, T-06: "compared are the bits and the resource").
use mathlib.Core.Path.{◌≡◌, refl, ◌∙◌, ap}
use mathlib.Core.Bool.{Bool, true, false, cond, ◌&&◌}
use mathlib.Core.List.{List, ◌++◌, append_assoc}
use Prim.Native.Nat.{ℕ, ◌+◌, ◌-◌, ◌*◌, ◌/◌, ◌%◌, ◌≤◌, ◌<◌}
use native.Mathlib.Omega.{arith}
use borrow.Author.Tests.{lt-ltb, ltb-true, ltb-false, eqb-true, eqb-false, eq-eqb, ne_eqb}
use Rattle.std.proofs.lemmas.List.{get_or_past}
use lib.Dec.{ltb, eqb}
use lib.ListN.{length, get_or, replicate}
use Rattle.answer.specs.Lists.{at}
use Rattle.std.specs.Prelude.{Ok}
use Rattle.answer.proofs.Lists.{get_d_filled}
use Rattle.bits.specs.Bits.{field}
use Rattle.bits.proofs.Fields.{field_lt}
use Rattle.resource.specs.Names.{name_of, number_of}
use Rattle.resource.proofs.Names.{named_back}
use Rattle.plan.specs.Worked.{the_plan}
use Rattle.kinds.specs.Signals.{Signals}
use Rattle.records.specs.declared.Record.{Record}
use Rattle.records.specs.Records.{records_of, blank}
use Rattle.records.specs.Owns.{fields_before}
use Rattle.records.specs.Worked.{the_owner}
use Rattle.records.proofs.Entering.{few_fields}
use Rattle.channel.specs.Layout.{row, count, user_at}
use Rattle.channel.proofs.Laws.{positions_le, row_length}
use Rattle.halves.specs.Table.{outcome11}
use Rattle.halves.proofs.Counts.{count_1, count_2}
use Rattle.both_halves.proofs.Accepted.{known_code, accepted_signals}
use Rattle.listed.specs.Listing.{owner_in}
use Rattle.user_codes.specs.Engine.{resource_code, record_code, user_code, owned_code}
use Rattle.user_codes.proofs.Codes.{name_most}
use Rattle.user_codes.proofs.Fields.{plan_codes, owned_code_lem, owner_index, owner_segment}
use Rattle.compared.specs.Reading.{user_is, user_bits, reading_of, same_resource}
use Rattle.compared.specs.Differences.{by}
use Rattle.compared.specs.Text.{side_text, user_line, item_line, difference_line}
use Rattle.difference_lines.specs.Engine.{bits_part, code_line}
use Rattle.compare.specs.Engine.{code_in72, code_at, channel_codes, frame_code}

-- a channel's 72 numbers, read past their end
pub in72 : (codes : List ℕ) (i : ℕ) → length codes ≡ 72 → at codes i ≡ code_in72 codes i
unfolding code_in72
in72 codes i e = go (ltb i 72) refl
  where
    go : (t : Bool) → ltb i 72 ≡ t → at codes i ≡ cond t (at codes i) 0
    go true h = refl
    go false h = let l = ltb-false i 72 h in get_or_past codes i 0 (omega arith)

-- ---- each part has its room
pub record Bounds (f : ℕ) (z : Record) : Type 0 where
  pub bits_most : f < 4194304
  pub index_most : number_of z.resource ≤ 255
  pub segment_most : z.segment ≤ 255

-- ---- two numbers are the same where their parts are
parts_same : (a b f g x y : ℕ) → (a ≡ b → (f ≡ g) × (x ≡ y)) → (f ≡ g → x ≡ y → a ≡ b) → eqb a b ≡ (eqb f g && eqb x y)
parts_same a b f g x y u v = go (eqb f g) (eqb x y) refl refl
  where
    go : (s t : Bool) → eqb f g ≡ s → eqb x y ≡ t → eqb a b ≡ (s && t)
    go true true d e = eq-eqb a b (v (eqb-true f g d) (eqb-true x y e))
    go true false d e = ne_eqb a b (λ h. eqb-false x y e (u h).1)
    go false t d e = ne_eqb a b (λ h. eqb-false f g d (u h).0)

bits_apart : (f g x y : ℕ) → f < 4194304 → g < 4194304 → eqb (f + 4194304 * x) (g + 4194304 * y) ≡ (eqb f g && eqb x y)
bits_apart f g x y h k =
    parts_same (f + 4194304 * x) (g + 4194304 * y) f g x y (λ (e : f + 4194304 * x ≡ g + 4194304 * y). (omega arith, omega arith)) (λ d e. rw (d, e))

size_apart : (f g x y : ℕ) → f < 4096 → g < 4096 → eqb (f + 4096 * x) (g + 4096 * y) ≡ (eqb f g && eqb x y)
size_apart f g x y h k =
    parts_same (f + 4096 * x) (g + 4096 * y) f g x y (λ (e : f + 4096 * x ≡ g + 4096 * y). (omega arith, omega arith)) (λ d e. rw (d, e))

index_apart : (f g x y : ℕ) → f ≤ 255 → g ≤ 255 → eqb (f + 256 * x) (g + 256 * y) ≡ (eqb f g && eqb x y)
index_apart f g x y h k =
    parts_same (f + 256 * x) (g + 256 * y) f g x y (λ (e : f + 256 * x ≡ g + 256 * y). (omega arith, omega arith)) (λ d e. rw (d, e))

pub code_same : (f g : ℕ) (x y : Record) → f < 4194304 → g < 4194304 → number_of x.resource ≤ 255 → number_of y.resource ≤ 255
    → eqb (user_code f (record_code x)) (user_code g (record_code y)) ≡ (eqb f g && same_resource x y)
unfolding user_code resource_code same_resource
code_same f g x y h k l m =
    let r = x.resource in
    let t = y.resource in
    bits_apart f g _ _ h k
    ∙ ap (λ (z : Bool). eqb f g && z)
    (size_apart (name_of r) (name_of t) _ _ (name_most r) (name_most t)
    ∙ ap (λ (z : Bool). eqb (name_of r) (name_of t) && z) (index_apart (number_of r) (number_of t) x.segment y.segment l m))

-- ---- the line that is made of a number
-- the parts of a number, back
module _ (f n i g : ℕ) (h : f < 4194304) (k : n < 4096) (l : i ≤ 255) (m : g ≤ 255) where
  abbrev code : ℕ
  code = f + 4194304 * (n + 4096 * (i + 256 * g))

  bits_back : code % 4194304 ≡ f
  bits_back = omega arith

  above : code / 4194304 ≡ n + 4096 * (i + 256 * g)
  above = omega arith

  size_back : code / 4194304 % 4096 ≡ n
  size_back = rw above (omega arith)

  next : code / 4194304 / 4096 ≡ i + 256 * g
  next = rw above (omega arith)

  index_back : code / 4194304 / 4096 % 256 ≡ i
  index_back = rw next (omega arith)

  segment_back : code / 4194304 / 4096 / 256 % 256 ≡ g
  segment_back = rw next (omega arith)

joined : (a b c d : List ℕ) → a ++ b ++ c ++ d ≡ a ++ (b ++ c ++ d)
joined a b c d = rw (append_assoc a b c, append_assoc a (b ++ c) d)

pub coded : (n s i f : ℕ) (z : Record) → f < 4194304 → number_of z.resource ≤ 255 → z.segment ≤ 255
    → code_line s i (user_code f (record_code z)) ≡ difference_line n (by s (user_is i f z))
unfolding code_line user_code resource_code bits_part difference_line item_line user_line
coded n s i f z h l m =
    let r = z.resource in
    let k = name_most r in
    rw (
      bits_back f (name_of r) (number_of r) z.segment h k l m,
      size_back f (name_of r) (number_of r) z.segment h k l m,
      index_back f (name_of r) (number_of r) z.segment h k l m,
      segment_back f (name_of r) (number_of r) z.segment h k l m,
      named_back r,
    )
    (joined (side_text s) (bits_part i f) _ _)

-- ---- the numbers of an accepted frame's fields
module _ (bw : ℕ) (a b : List ℕ) (e : outcome11 bw a b ≡ Ok tt) where
  abbrev r : List ℕ
  r = row bw a b

  known : bw ≤ 4
  known = known_code bw a b e

  few : length r ≤ 16
  few = omega (arith, row_length bw a b, positions_le bw known)

  signals : Signals (the_plan r) (at r) 0 (length r)
  signals = accepted_signals bw a b e

  pub fields_1 : count bw 1 a ≡ fields_before 1 (at r) (length r)
  fields_1 = rw (row_length bw a b) (count_1 bw a b known)

  pub fields_2 : count bw 2 b ≡ fields_before 2 (at r) (length r)
  fields_2 = rw (row_length bw a b) (count_2 bw a b known)

  pub few_1 : count bw 1 a ≤ 72
  few_1 = omega (arith, fields_1, few_fields 1 (at r) (length r) few)

  pub few_2 : count bw 2 b ≤ 72
  few_2 = omega (arith, fields_2, few_fields 2 (at r) (length r) few)

  -- of channel c, which s is
  module _ (c : ℕ) (s : List ℕ) (n : ℕ) (f : n ≡ fields_before c (at r) (length r)) (j : ℕ) (h : j < n) where
    abbrev below : j < fields_before c (at r) (length r)
    below = rw (← f) h

    channel_code : at (channel_codes bw s r c n) j
        ≡ user_code (field s (user_at bw j) 22) (record_code (get_or (records_of (the_plan r) r) (the_owner r c j) blank))
    unfolding channel_codes
    channel_code =
        get_d_filled (owned_code bw s r (plan_codes r few) c) n (replicate {A = ℕ} 72 0) j 0 h ∙ owned_code_lem r few signals c j below bw s

    channel_bounds : Bounds (field s (user_at bw j) 22) (get_or (records_of (the_plan r) r) (the_owner r c j) blank)
    channel_bounds = record {
      bits_most = field_lt s (user_at bw j) 22;
      index_most = owner_index r few signals c j below;
      segment_most = owner_segment r few signals c j below;
    }

  pub frame_code_lem : (i : ℕ) → i < count bw 1 a + count bw 2 b
      → frame_code bw a b r (count bw 1 a) (count bw 2 b) i ≡ user_code ((reading_of bw a b).bits i) (record_code ((reading_of bw a b).owner i))
  unfolding frame_code code_at code_in72 reading_of user_bits owner_in
  frame_code_lem i h = go (ltb i m) refl
    where
      m : ℕ
      m = count bw 1 a

      go : (t : Bool) → ltb i m ≡ t
          → cond t (code_in72 (channel_codes bw a r 1 m) i) (code_in72 (channel_codes bw b r 2 (count bw 2 b)) (i - m))
          ≡ user_code (cond t (field a (user_at bw i) 22) (field b (user_at bw (i - m)) 22))
          (record_code (get_or (records_of (the_plan r) r) (cond t (the_owner r 1 i) (the_owner r 2 (i - m))) blank))
      go true f =
          let l = ltb-true i m f in
          rw (lt-ltb i 72 (omega (arith, few_1))) (channel_code 1 a m fields_1 i l)
      go false f =
          let l = ltb-false i m f in
          rw (lt-ltb (i - m) 72 (omega (arith, few_2)))
          (channel_code 2 b (count bw 2 b) fields_2 (i - m) (omega arith))

  pub code_bounds : (i : ℕ) → i < count bw 1 a + count bw 2 b → Bounds ((reading_of bw a b).bits i) ((reading_of bw a b).owner i)
  unfolding reading_of user_bits owner_in
  code_bounds i h = go (ltb i m) refl
    where
      m : ℕ
      m = count bw 1 a

      go : (t : Bool) → ltb i m ≡ t
          → Bounds (cond t (field a (user_at bw i) 22) (field b (user_at bw (i - m)) 22))
          (get_or (records_of (the_plan r) r) (cond t (the_owner r 1 i) (the_owner r 2 (i - m))) blank)
      go true f = channel_bounds 1 a m fields_1 i (ltb-true i m f)
      go false f = channel_bounds 2 b (count bw 2 b) fields_2 (i - m) (omega (arith, ltb-false i m f))
