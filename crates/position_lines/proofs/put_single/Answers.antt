-- `position_lines::put_single` meets its contract.
use Rattle.std.proofs.Common.{arith, ◌≡◌, sym, ap, ◌∙◌, ◌++◌, append_assoc, ℕ, zero, suc, ◌*◌, ◌/◌, ◌%◌, ◌≤◌, ◌<◌, rules}
use Rattle.text.specs.Text.{codes}
use Rattle.stores.specs.Engine.{spaced_word}
use Rattle.stores.proofs.Laws.{word_few}
use Rattle.resource.specs.Index.{resource_at}
use Rattle.resource.specs.Names.{number_of}
use Rattle.piece_codes.specs.Engine.{piece_of, word_at, entry_at}
use Rattle.piece_codes.proofs.Codes.{code_runs, code_index, word_good}
use Rattle.piece_codes.proofs.Entries.{stepped, entry_at_lem}
use Rattle.resource_line.specs.ResourceLine.{ru_head, ru_line}
use Rattle.resource_line.specs.Engine.{named_text, start_text}
use Rattle.resource_line.proofs.Whole.{start_text_lem}
use Rattle.position_lines.specs.Engine.{code_line}
use Rattle.position_lines.proofs.Coded.{code_class, single_name, single_start, single_run}
use Rattle.position_lines.proofs.put_single.Goals as goal

few : (a q : ℕ) → a < 256 → q < 4 → a * q < 1024
few a zero h l = omega arith
few a (suc zero) h l = omega arith
few a (suc (suc zero)) h l = omega arith
few a (suc (suc (suc zero))) h l = omega arith
few a (suc (suc (suc (suc q)))) h l = absurd (omega (arith, l))

pub spaced_of-index-requires : goal.spaced_of-index-requires
spaced_of-index-requires c =
    let t = entry_at_lem c.args.n c.args.c c.requires.2 c.requires.3 c.requires.7 in
    rw c.entry_at-x.ensures (t.index (c.args.p % 4) (omega arith)).1

pub put_run-e-requires : goal.put_run-e-requires
put_run-e-requires c =
    let t = entry_at_lem c.args.n c.args.c c.requires.2 c.requires.3 c.requires.7 in
    let i = t.index (c.args.p % 4) (omega arith) in
    let few : c.entry_at-x.result / 72057594037927936 ≤ 5 = rw c.entry_at-x.ensures t.few in
    let wide : c.spaced_of-index.result / 16777216 ≤ 3 = rw (c.spaced_of-index.ensures, c.entry_at-x.ensures)
    (word_few (stepped (entry_at c.args.n c.args.c) (c.args.p % 4)) i.1) in
    let g = word_good c.args.n c.args.c c.requires.2 c.requires.3 in
    let rise : c.entry_at-x.result % 256 ≤ c.entry_at-x.result / 4294967296 % 256 = rw c.entry_at-x.ensures (omega (arith, t.first, t.last, g.0)) in (
      omega (arith, rise),
      omega (arith, c.base_of-base.ensures.1),
      omega (arith, c.requires.0),
      omega arith,
      omega (arith, few, wide, c.requires.6),
      omega
          (arith, few, wide, c.requires.5),
    )

pub put_named-requires : goal.put_named-requires
put_named-requires c =
    let t = entry_at_lem c.args.n c.args.c c.requires.2 c.requires.3 c.requires.7 in
    let i = t.index (c.args.p % 4) (omega arith) in
    let few : c.entry_at-x.result / 72057594037927936 ≤ 5 = rw c.entry_at-x.ensures t.few in
    let wide : c.spaced_of-index.result / 16777216 ≤ 3 = rw (c.spaced_of-index.ensures, c.entry_at-x.ensures)
    (word_few (stepped (entry_at c.args.n c.args.c) (c.args.p % 4)) i.1) in
    (omega arith, few, omega (arith, wide), omega (arith, c.requires.1), c.requires.4, c.requires.5, search rules)

pub returns-clause-wrote : goal.returns-clause-wrote
unfolding code_line ru_line
returns-clause-wrote c =
    let t = entry_at_lem c.args.n c.args.c c.requires.2 c.requires.3 c.requires.7 in
    let i = t.index (c.args.p % 4) (omega arith) in
    let few : c.entry_at-x.result / 72057594037927936 ≤ 5 = rw c.entry_at-x.ensures t.few in
    let wide : c.spaced_of-index.result / 16777216 ≤ 3 = rw (c.spaced_of-index.ensures, c.entry_at-x.ensures)
    (word_few (stepped (entry_at c.args.n c.args.c) (c.args.p % 4)) i.1) in
    let y = entry_at c.args.n c.args.c in
    let q : c.args.p % 4 < 4 = omega arith in
    let r = resource_at (c.args.p % 4) (piece_of c.args.c) in
    let same : c.spaced_of-index.result ≡ spaced_word (stepped y (c.args.p % 4)) = rw (c.spaced_of-index.ensures, c.entry_at-x.ensures) in
    let start : named_text (c.entry_at-x.result / 256 % 16777216) (c.entry_at-x.result / 72057594037927936) c.spaced_of-index.result (c.args.p / 4) c.args.users
    ≡ ru_head (c.args.p / 4) r c.args.users ++ codes " tones=" =
    rw (same, c.entry_at-x.ensures)
    (single_start (y / 256 % 16777216) (y / 72057594037927936) (c.args.c / 16) (stepped y (c.args.p % 4)) (c.args.p / 4) c.args.users i.1
    (single_name c.args.n c.args.c c.requires.2 c.requires.3 c.requires.7)
    ∙ ap (λ (z : ℕ). start_text (c.args.c / 16) z (c.args.p / 4) c.args.users) (i.0 ∙ sym (code_index (c.args.p % 4) c.args.c q c.requires.2 c.requires.3))
    ∙ ap (λ (z : ℕ). start_text z (number_of r) (c.args.p / 4) c.args.users) (sym (code_class (c.args.p % 4) c.args.c q c.requires.2 c.requires.3))
    ∙ start_text_lem (c.args.p / 4) c.args.users r) in
    let tones = single_run c.args.n c.base_of-base.result (word_at c.args.n c.args.c) c.entry_at-x.result t.one (rw c.entry_at-x.ensures t.first)
    (rw c.entry_at-x.ensures t.last) in
    let w = c.put_run-e.ensures.under.under _ _ c.args.at (omega (arith, c.put_named.ensures.wrote.next, c.put_named.ensures.bounded))
    (rw c.put_named.ensures.bounded at c.put_named.ensures.wrote) in
    rw append_assoc (rw (start, sym tones, c.base_of-base.ensures.0, sym (code_runs c.args.n c.args.p c.args.c c.requires.3)) at w)

pub returns-clause-bounded : goal.returns-clause-bounded
unfolding code_line ru_line
returns-clause-bounded c =
    let t = entry_at_lem c.args.n c.args.c c.requires.2 c.requires.3 c.requires.7 in
    let i = t.index (c.args.p % 4) (omega arith) in
    let few : c.entry_at-x.result / 72057594037927936 ≤ 5 = rw c.entry_at-x.ensures t.few in
    let wide : c.spaced_of-index.result / 16777216 ≤ 3 = rw (c.spaced_of-index.ensures, c.entry_at-x.ensures)
    (word_few (stepped (entry_at c.args.n c.args.c) (c.args.p % 4)) i.1) in
    let y = entry_at c.args.n c.args.c in
    let q : c.args.p % 4 < 4 = omega arith in
    let r = resource_at (c.args.p % 4) (piece_of c.args.c) in
    let same : c.spaced_of-index.result ≡ spaced_word (stepped y (c.args.p % 4)) = rw (c.spaced_of-index.ensures, c.entry_at-x.ensures) in
    let start : named_text (c.entry_at-x.result / 256 % 16777216) (c.entry_at-x.result / 72057594037927936) c.spaced_of-index.result (c.args.p / 4) c.args.users
    ≡ ru_head (c.args.p / 4) r c.args.users ++ codes " tones=" =
    rw (same, c.entry_at-x.ensures)
    (single_start (y / 256 % 16777216) (y / 72057594037927936) (c.args.c / 16) (stepped y (c.args.p % 4)) (c.args.p / 4) c.args.users i.1
    (single_name c.args.n c.args.c c.requires.2 c.requires.3 c.requires.7)
    ∙ ap (λ (z : ℕ). start_text (c.args.c / 16) z (c.args.p / 4) c.args.users) (i.0 ∙ sym (code_index (c.args.p % 4) c.args.c q c.requires.2 c.requires.3))
    ∙ ap (λ (z : ℕ). start_text z (number_of r) (c.args.p / 4) c.args.users) (sym (code_class (c.args.p % 4) c.args.c q c.requires.2 c.requires.3))
    ∙ start_text_lem (c.args.p / 4) c.args.users r) in
    let tones = single_run c.args.n c.base_of-base.result (word_at c.args.n c.args.c) c.entry_at-x.result t.one (rw c.entry_at-x.ensures t.first)
    (rw c.entry_at-x.ensures t.last) in
    let w = c.put_run-e.ensures.under.under _ _ c.args.at (omega (arith, c.put_named.ensures.wrote.next, c.put_named.ensures.bounded))
    (rw c.put_named.ensures.bounded at c.put_named.ensures.wrote) in
    omega (arith, c.put_run-e.ensures.bounded, few, wide)
