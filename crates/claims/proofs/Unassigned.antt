-- 02's T-01 holds of what a listing says.
use mathlib.Core.Path.{◌≡◌, refl, sym, ap, ◌∙◌}
use mathlib.Core.List.{List, ◌++◌}
use Prim.Native.Nat.{ℕ, ◌≤◌}
use native.Mathlib.Omega.{arith}
use lib.ListN.{length, take, drop}
use lib.Seq.{take-append_seam}
use Rattle.answer.specs.declared.Answer.{Answer}
use Rattle.std.specs.Prelude.{Ok}
use Rattle.answer.proofs.Order.{pass_left}
use Rattle.halves.specs.Table.{outcome11}
use Rattle.text.specs.Text.{Wrote}
use Rattle.text.proofs.Laws.{front, count as written}
use Rattle.input.specs.Worked.{frame, said}
use Rattle.lines.specs.Lines.{head_text}
use Rattle.listed.specs.Listing.{ru_lines, sta_lines, listing_of, listing, check23, list_outcome, list_answer, list_after, frame_text, program_text}
use Rattle.listed.proofs.Stations.{fields_words, station, counted}
use Rattle.listing.proofs.Facts.{list_text}
use Rattle.listing.proofs.Judged.{accepted_exactly}
use Rattle.claims.specs.Calls.{Call, TextCall, Lists, lists, CLists, c_lists, Responds, responds}
use Rattle.claims.specs.Unassigned.{Listed, Unassigned}

-- the listing of a frame that passes 1 to 11
listing_says : (bw : ℕ) (a b : List ℕ) → outcome11 bw a b ≡ Ok tt → Listed bw a b (listing bw a b)
unfolding listing listing_of head_text ru_lines sta_lines
listing_says bw a b h =
    record { lines = refl; counted = counted bw a b h; station = λ i l. station bw a b h i (omega (arith, fields_words bw a b)) }

-- the answer and the buffer that a contract allows
says : (bw : ℕ) (a b d : List ℕ) (x : Answer) (e : List ℕ) → x ≡ list_answer bw a b (length d) → e ≡ list_after bw a b d → x.number ≡ 0
    → Listed bw a b (take x.place e)
unfolding list_outcome
says bw a b d x e p q z =
    let n : (list_answer bw a b (length d)).number ≡ 0 = ap (λ (y : Answer). y.number) (sym p) ∙ z in
    let o = accepted_exactly bw a b (length d) n in
    let h : outcome11 bw a b ≡ Ok tt = pass_left (outcome11 bw a b) (check23 bw a b (length d)) o in
    rw (p, q, list_text bw a b d o) (listing_says bw a b h)

list_says : (c : Call) → Lists c → c.answer.number ≡ 0 → Listed c.bandwidth c.channel_1 c.channel_2 (take c.answer.place c.after)
list_says c (lists κs a r s p) = says a.0 a.1.0.now a.1.1.0.now a.1.1.1.0.now r s.1.1.1.0.now p.0 p.1

c_list_says : (c : Call) → CLists c → c.answer.number ≡ 0 → Listed c.bandwidth c.channel_1 c.channel_2 (take c.answer.place c.after)
c_list_says c (c_lists κs a r s p) = says a.0 a.1.0.now a.1.1.0.now a.1.1.1.0.now r s.1.1.1.0.now p.0 p.1

program_says : (c : TextCall) → Responds c → (bw : ℕ) (a b : List ℕ) → said c.text ≡ frame bw a b → outcome11 bw a b ≡ Ok tt
    → c.bytes ≤ length c.lent → Listed bw a b (take c.bytes c.after)
unfolding program_text frame_text
program_says c (responds κs x r s p) bw a b e h l =
    let w : Wrote x.1.0.now 0 (listing bw a b) s.1.0.now r = rw (e, h) at p in
    let n : r ≡ length (listing bw a b) = written w in
    let t : s.1.0.now ≡ listing bw a b ++ drop (length (listing bw a b)) x.1.0.now = front (omega arith) w in
    rw (t, n, take-append_seam) (listing_says bw a b h)

pub unassigned : Unassigned
unassigned = record { list_says = list_says; c_list_says = c_list_says; program_says = program_says }
