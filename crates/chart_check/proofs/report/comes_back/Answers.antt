-- `report::comes_back`: bytes that are as many as the text are all that the buffer holds. Assumes nothing.
use Rattle.std.proofs.Common.{◌≡◌, ℕ, Bool, true, false, ◌≢◌, List, ◌++◌, length, drop, take, Ok, Err, Result, nat_eq, sym, ap, ◌∙◌, true≢false, append-nil, arith}
use Rattle.std.specs.Result.{result_eq}
use lib.Seq.{drop-length}
use Rattle.std.proofs.lemmas.Bool.Decides.{Decides-eqb}
use Rattle.std.proofs.lemmas.List.{take_at}
use Rattle.std.proofs.lemmas.Slice.Eq.{slice_eq-Decides}
use Rattle.chart_writer.specs.Writes.{Written}
use Rattle.chart_check.proofs.report.comes_back.Goals as goal
use Rattle.chart_check.proofs.report.comes_back.Goals.{then-eq, else-eq}

-- as many bytes as the text has are all of the buffer
whole : {F : Type 0} (E : F → F → Bool) (bytes old new text behind : List ℕ) (r : Result ℕ F) → Written bytes old r new → length old ≡ length text
    → result_eq nat_eq E r (Ok (length text)) ≡ true → take (length text) (new ++ behind) ≡ bytes
whole E bytes old new text behind (Ok n) p long t =
    let n_is = (Decides-eqb n (length text)).0 t in
    let all : new ≡ bytes =
    p.after ∙ ap (λ k. bytes ++ drop k old) (n_is ∙ sym long) ∙ ap (λ l. bytes ++ l) (drop-length old) ∙ append-nil bytes in
    take_at new behind (length text) (ap length all ∙ sym p.count ∙ n_is) ∙ all
whole E bytes old new text behind (Err e) u long t = absurd (true≢false (sym t))

-- any other answer tells other bytes
other : {F : Type 0} (E : F → F → Bool) (bytes old new text : List ℕ) (r : Result ℕ F) → Written bytes old r new → length old ≡ length text
    → result_eq nat_eq E r (Ok (length text)) ≡ false → bytes ≢ text
other E bytes old new text (Ok n) p long f e = absurd (true≢false (sym ((Decides-eqb n (length text)).1 (p.count ∙ ap length e)) ∙ f))
other E bytes old new text (Err x) u long f e = omega (arith, u.short, ap length e)

pub returns : goal.returns
returns c =
    let text = c.args.text.now in
    let long = c.as_mut_slice.ensures.len ∙ c.in_ok-out.ensures.len in
    elim c.if-eq.branch [
      | then-eq w ↦
          let same = slice_eq-Decides Decides-eqb w.as_slice.result.now text w.eq-then-eq.result w.eq-then-eq.ensures in
          let seen =
          w.as_slice.ensures.value ∙ ap (λ n. take n (c.write-answer.new.out ++ drop (length c.write-answer.new.out) c.in_ok-out.out.items)) c.in_ok-out.ensures.len
          ∙ whole _ _ _ c.write-answer.new.out text _ c.write-answer.result c.write-answer.ensures long (sym c.eq.ensures ∙ w.if-eq.true) in
          (λ t. sym seen ∙ same.0 (sym w.result-is ∙ t), λ e. w.result-is ∙ same.1 (seen ∙ e))
      | else-eq w ↦
          let no = other _ _ _ c.write-answer.new.out text c.write-answer.result c.write-answer.ensures long (sym c.eq.ensures ∙ w.if-eq.false) in
          (λ t. absurd (true≢false (sym t ∙ w.result-is ∙ w.if-eq.false)), λ e. absurd (no e))
    ]
