use Rattle.std.proofs.{
  Common.{◌≡◌, ◌++◌, ◌∷◌, [], ◌∙◌, ap, sym, flat_map, string_bytes, refl},
  lemmas.{Iterator.{Adapters.YieldsList-from_vec, Consumers.YieldsList-end}, List.map-id},
}
use Rattle.arraydeque.specs.Machine.{answer_of}
use Rattle.adq.specs.Text.{text_of}
use Rattle.adq.proofs.drive.print.Goals as goal

pub returns-clause-ok : goal.returns-clause-ok
returns-clause-ok g c =
    let made = c.into_iter-reply-iterator.ensures.into_iter_gives in
    let source = YieldsList-from_vec {s = c.into_iter-reply-iterator.result} _ made.0 (made.1 ∙ c.args.replies.ok.0) in
    let all = YieldsList-end source c.loop-reply.yielded c.loop-reply.reply-iterator c.loop-reply.yielded_by
    c.next.result c.next.new.self c.in-None.is c.next.ensures.steps in
    let done = sym (map-id _) ∙ all.0 in
    let replies : string_bytes c.loop-reply.text
    ≡ flat_map (λ reply. text_of (answer_of reply) ++ 10 ∷ []) c.args.replies.items
    = c.loop-reply.invariant ∙ ap (flat_map (λ reply. text_of (answer_of reply) ++ 10 ∷ [])) done in
    rw (c.in_ok-print_deque.ensures, c.in_ok-push_str.ensures.bytes, replies) refl
