-- `lend_round` cuts a run that goes round the region's end in two, and lends both. Assumes `Logic`.
use Rattle.arraydeque_ring.{
  proofs.{
    loans.Made.loan_lawful,
    memory.{
      Called.{Called, calls_met, first_fact, knows},
      Kit.{◌≡◌, refl, ap, vint, ◌∙◌, [], ◌∷◌, ℕ, ◌<◌, ◌≤◌, ◌^◌, lit<, arith, length, id⊢, w64, tables},
      Kit.{owns, ◌$◌, !, move, drop, join, fsplit, fjoin, fjoin3, feq_i, feq_l, suffices, done},
      Kit.{of_opd, lit, bin, addr, load, stop, fld, no_more, whole, sub, look_in, only, and_then},
      Kit.{returns, alloc_all, pass_all, free_all, look_at, get, through, sets, lands_as, usize},
      Kit.{uint_vals, mut_vals, nothing, heard, El, both_by, pure_i},
      Methods.{method, spent, machine_values},
      Regions.{Sr, slots_open, slots_close},
    },
    slots.Slots.lend_two.Met.met,
    wrap.place_from.Met.met as w_met,
  },
  specs.Loans.{AreApart, place_from},
}
use denote.Plain.{uint_Lawful}
use Rattle.std.{specs.Prelude.{◌-◌, min}, below.core.proofs.int.usize.min.Met.met as e_met}
use Rattle.arraydeque_ring.specs.contracts.slots.Slots.lend_two as g
use Rattle.arraydeque_ring.specs.contracts.wrap.place_from as w
use Rattle.std.below.core.specs.contracts.int.usize.min as e
use Rattle.arraydeque_ring.specs.contracts.slots.Slots.lend_round as f
use Rattle.arraydeque_ring.proofs.slots.Slots.lend_round.Statement as stated
use Rattle.arraydeque_ring.proofs.slots.Slots.lend_round.Code as code

pub lend_round_spec : {M : Type 1} → stated.statement M
unfolding both_by
lend_round_spec 𝓤 𝓛 𝓜 𝓡 wired X L =
    let E : El = record { row = X; laws = L } in
    let 𝓣 = tables 𝓤 𝓛.H 𝓜 𝓡 𝓡.env in
    method 1 3 (Sr E) 𝓛 (spent 1 𝓛 _) 𝓜 𝓡 _ _ (f.clauses X 𝓛 𝓜.mem 𝓡.returns) _ _
    (code.unfolded 𝓤 𝓛.H 𝓜 𝓡 wired (X, tt)) (λ κs qs bounds a _ typed post ends.
    let r = a.0.now in
    let start = a.1.0 in let from = a.1.1.0 in let len = a.1.1.1.0 in
    let place = place_from start from (length r.places) in let cut = min len (length r.places - place) in
    let fl = typed.1.1.0.1.fits in
    first_fact ! (λ lives. first_fact ! (λ inside. first_fact ! (λ within. first_fact ! (λ one. heard ! _ (λ two.
    alloc_all ! (λ l. pass_all ! refl ((tt, tt), typed) $
    slots_open E ! tt r (λ heap b o n ok.
    sets ! (of_opd ! (load ! (through ! refl (fld ! refl (stop !))) (look_in ! 2 (sub ! 1 refl (whole !))))) refl
    (tt, record { fits = ok.word }) $
    slots_close E ! tt r ok refl $
    -- [obs; the borrow; its token; the others]
    let zᵥ : (Called 𝓛 w.ended (w.clauses 𝓛 𝓜.mem 𝓡.returns)).Ghost =
    ((tt, tt, tt, (start, (from, (n, tt))), (uint_vals w64 start, (uint_vals w64 from, (uint_vals w64 n, tt)))), tt) in
    pure_i ! (owns (usize ∷ usize ∷ usize ∷ []) zᵥ.0.3 zᵥ.0.4) _
    ((refl, typed.0.1.fits), ((refl, typed.1.0.1.fits), ((refl, ok.word), tt))) $ nothing ! $ join ! $
    knows ! {φ = from ≤ n} (omega (arith, ok.capacity)) $ knows ! {φ = start ≤ n} (omega (arith, ok.capacity)) $
    join ! $
    calls_met 𝓛 ! 𝓜 𝓣 w.ended (w.clauses 𝓛 𝓜.mem 𝓡.returns)
    (w_met 𝓤 𝓛 𝓜 𝓡 (code.calls-arraydeque_ring::wrap::place_from 𝓡.env wired)) zᵥ (id⊢ 𝓤 _)
    (and_then ! (get ! refl) (and_then ! (get ! refl) (and_then ! (get ! refl) (no_more !)))) (uint_Lawful 𝓛 w64)
    (λ u wrapped ws wrapped_typed. fsplit ! $ feq_l ! (λ is_wrapped. drop ! $ drop ! $ heard ! _ (λ wraps.
    let here : wrapped ≡ place = wraps ∙ ap (place_from start from) ok.capacity in
    let fp : place < 2 ^ 64 = grind (arith, ok.capacity, ok.word, inside, within) in
    lands_as ! (ap only is_wrapped ∙ ap (vint w64) here) refl (tt, record { fits = fp }) $
    let room = n - place in let room_fits : room < 2 ^ 64 = omega arith in
    sets ! (bin ! (get ! refl) (get ! refl) (omega arith)) refl
    (tt, record { fits = room_fits }) $
    let zₑ : (Called 𝓛 e.ended (e.clauses 𝓛 𝓜.mem 𝓡.returns)).Ghost =
    ((tt, tt, tt, (len, (room, tt)), (uint_vals w64 len, (uint_vals w64 room, tt))), tt) in
    pure_i ! (owns (usize ∷ usize ∷ []) zₑ.0.3 zₑ.0.4) _
    ((refl, fl), ((refl, room_fits), tt)) $ nothing ! $ join ! $ nothing ! $
    calls_met 𝓛 ! 𝓜 𝓣 e.ended (e.clauses 𝓛 𝓜.mem 𝓡.returns)
    (e_met 𝓤 𝓛 𝓜 𝓡 (code.calls-core::int::usize::min 𝓡.env wired)) zₑ (id⊢ 𝓤 _)
    (and_then ! (get ! refl) (and_then ! (get ! refl) (no_more !))) (uint_Lawful 𝓛 w64) (λ u first ws _. fsplit ! $
    feq_l ! (λ is_first. drop ! $ drop ! $ heard ! _ (λ cuts.
    let same : first ≡ cut = cuts ∙ ap (λ k. min len (k - place)) ok.capacity in let rest = len - cut in
    let fc : cut < 2 ^ 64 = omega arith in let fr : rest < 2 ^ 64 = omega arith in
    lands_as ! (ap only is_first ∙ ap (vint w64) same) refl (tt, record { fits = fc }) $
    sets ! (addr ! (through ! refl (stop !))) refl (tt, tt) $
    sets ! (bin ! (get ! refl) (get ! refl) (omega arith)) refl (tt, record { fits = fr }) $
    feq_i ! _ (mut_vals a.0) _ refl $ fjoin3 ! $
    let words : ℕ × (ℕ × (ℕ × (ℕ × Unit {0}))) = (place, (cut, (0, (rest, tt)))) in
    let vals = machine_values 1 κs 4 (a.0, words) in
    pure_i ! (owns (usize ∷ usize ∷ usize ∷ usize ∷ []) words vals.1) _
    ((refl, fp), ((refl, fc), ((refl, lit< tt), ((refl, fr), tt)))) $
    -- [the words; the borrow; its token; the others]
    move ! (1 ∷ 0 ∷ []) $ fjoin ! $ move ! (1 ∷ 2 ∷ []) $ join ! $ join ! $
    let apart : AreApart place cut 0 rest = λ k from to from' to'. omega arith in
    knows ! apart $ knows ! two $ join ! $ knows ! one $ join ! $ knows ! lives $ join ! $
    calls_met 𝓛 ! 𝓜 𝓣 (g.ended X) (g.clauses X 𝓛 𝓜.mem 𝓡.returns)
    (met 𝓤 𝓛 𝓜 𝓡 (code.calls-arraydeque_ring::slots::Slots::lend_two 𝓡.env wired) X L)
    ((κs, qs, bounds, (a.0, words), vals), tt) (id⊢ 𝓤 _)
    (and_then ! (get ! refl) (and_then ! (get ! refl)
    (and_then ! (get ! refl) (and_then ! (lit ! tt) (and_then ! (get ! refl) (no_more !)))))) (loan_lawful E)
    (λ v it ws it_typed. lands_as ! refl refl it_typed.0 $
    -- [the loan; the tokens; what `lend_two` ensures]
    returns ! (look_at ! 0 refl) $ free_all ! refl $ suffices ! _ (ends v it tt) $ nothing ! $ done !)))))))))))))))
