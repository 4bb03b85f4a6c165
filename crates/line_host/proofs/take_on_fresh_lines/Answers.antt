use Rattle.std.proofs.Common.{◌≡◌, take, drop, ap, ◌∙◌, rules}
use Rattle.std.proofs.lemmas.Result.{err_from_is_err_and}
use Rattle.side.specs.Signals.{heard_of}
use Rattle.line_host.specs.Fresh.{one_message}
use Rattle.line_host.proofs.Opens.{took, refused, beyond_opened}
use Rattle.line_host.proofs.take_on_fresh_lines.Goals as goal

pub returns-in_err-reading : goal.returns-in_err-reading
returns-in_err-reading c =
    let p = err_from_is_err_and c.from_residual.result c.from_residual.ensures.1 in
    let t = refused c.args.records.now _ c.open-lines.ensures.records c.args.message.now c.args.reply.now c.in_err-reading.field-0.0 c.in_err-reading.ensures in
    let l : take 32 c.open-lines.result.records.now ≡ (one_message c.args.records.now c.args.message.now c.args.reply.now).records = ap (λ a. a.records) t in
    let b : drop 32 c.open-lines.result.records.now ≡ drop 32 c.args.records.now = beyond_opened c.args.records.now _ c.open-lines.ensures.records in
    record { answered = rw (p.1, p.2) (ap (λ a. a.answer) t); legs = search rules; beyond = search rules; reply = ap (λ a. a.buffer) t }

pub returns : goal.returns
returns c =
    let t = took c.args.records.now _ c.open-lines.ensures.records c.args.message.now c.args.reply.now (heard_of c.in_ok-reading.reading) c.in_ok-reading.ensures in
    let d = c.take.ensures.did in
    let l : take 32 c.take.new.self.records.now ≡ (one_message c.args.records.now c.args.message.now c.args.reply.now).records = d.left ∙ ap (λ a. a.records) t in
    let b : drop 32 c.take.new.self.records.now ≡ drop 32 c.args.records.now = c.take.ensures.beyond ∙ beyond_opened c.args.records.now _ c.open-lines.ensures.records in
    record { answered = d.answered ∙ ap (λ a. a.answer) t; legs = search rules; beyond = search rules; reply = d.wrote ∙ ap (λ a. a.buffer) t }
