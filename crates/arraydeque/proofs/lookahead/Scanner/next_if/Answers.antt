use Rattle.std.proofs.{
  Common.{[], option_copied, refl, sym, ap, ◌∙◌},
  lemmas.Option.slice_get_within,
}
use Rattle.arraydeque.proofs.Scanned.{HandsOut-append, NextIs-buffer}
use Rattle.arraydeque.proofs.lookahead.Scanner.next_if.Goals as goal

pub returns-in_default-clause-rejected : goal.returns-in_default-clause-rejected
returns-in_default-clause-rejected g c =
    let seen = c.peek.follows.holds-at-none in
    let first = sym seen.sees ∙ ap option_copied c.in_default.is in
    NextIs-buffer g.I.Iterator.next_gives _ _ (rw first tt) (rw seen.sees at seen.none)

pub returns-then-not-is_accepted-clause-rejected : goal.returns-then-not-is_accepted-clause-rejected
returns-then-not-is_accepted-clause-rejected g c =
    let seen = c.peek.follows.holds-at-none in
    let first = sym seen.sees ∙ ap option_copied c.in-Some.is in
    NextIs-buffer g.I.Iterator.next_gives _ _ (rw first (c.in-Some.item, c.if-not-is_accepted.ensures, refl))
    (rw seen.sees at seen.none)

pub returns-clause-hands_out : goal.returns-clause-hands_out
returns-clause-hands_out g c = HandsOut-append g.I.Iterator.next_gives c.args.self.now
    c.peek.follows.lender-at-none c.next.new.self [] _ c.peek.follows.holds-at-none.reads_on.hands_out
    c.next.ensures.hands_out

pub returns-clause-accepted : goal.returns-clause-accepted
returns-clause-accepted g c =
    let first = sym c.peek.follows.holds-at-none.sees ∙ ap option_copied c.in-Some.is in
    let taken = (c.next.ensures.buffered (slice_get_within _ 0 _ first)).0 ∙ first in
    rw taken (c.in-Some.item, c.if-not-is_accepted.ensures, refl)

pub returns-clause-rejected : goal.returns-clause-rejected
returns-clause-rejected g c =
    let first = sym c.peek.follows.holds-at-none.sees ∙ ap option_copied c.in-Some.is in
    let taken = (c.next.ensures.buffered (slice_get_within _ 0 _ first)).0 ∙ first in
    rw taken tt
