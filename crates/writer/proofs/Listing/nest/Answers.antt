use Rattle.std.proofs.Common.{◌≡◌, ℕ, ◌+◌, ◌-◌, ◌≤◌, List, ◌++◌, length, refl, ap, ◌∙◌, arith, rules}
use borrow.Rule.Slice.PartMut.{put_mid}
use Rattle.std.proofs.lemmas.Result.{MatchResult-weaker}
use Rattle.writer.specs.Written.{ending}
use Rattle.writer.specs.Items.{written}
use Rattle.writer.proofs.Puts.{inside, moved}
use Rattle.writer.proofs.Nests.{enclosed}
use Rattle.writer.proofs.Listing.nest.Goals as goal

pub returns : goal.returns
returns g c =
    let s = rw (c.into_parts-outer.ensures, c.end_rule.ensures) at c.in_ok-start.ensures in
    let p = c.in_ok-nested.ensures in
    let at : ℕ = c.args.self.at in
    let n : ℕ = c.in_ok-nested.nested.length in
    let buf : List ℕ = c.args.buf.now in
    let ys : List ℕ = written c.args.items.now ++ ending g.I.Coding.rule.end in
    let mid : List ℕ = put_mid c.in_ok-start.start (length buf - c.in_ok-start.start) buf c.close_with.new.buf in
    let fits : length c.close_with.new.buf ≡ length buf - c.in_ok-start.start = search rules in
    let same : length mid ≡ length buf = search rules in
    let room : at + 2 ≤ length buf = omega (arith, s.1.0, s.1.1) in
    let inner = moved s.1.0 (ap (λ k. k + n) s.1.0) (inside c.in_ok-start.start buf c.close_with.new.buf ys n s.1.1 fits (moved (c.list.ensures.0 ∙ c.begin.ensures) refl p.adds)) in
    let long : n ≡ length ys = omega (arith, inner.count) in
    let e = rw (c.from_parts.ensures.0, c.from_parts.ensures.1, c.into_parts-outer.ensures) at c.enclose.ensures in
    MatchResult-weaker c.enclose.result e
    (λ x q. (record { fine = s.0; adds = enclosed ys buf mid _ at n _ c.args.tag room inner q.0.adds }, q.1))
    (λ e q. absurd (grind arith))
