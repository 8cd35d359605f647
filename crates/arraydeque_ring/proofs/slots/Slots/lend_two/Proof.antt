-- `lend_two` lends the values of two runs, and the region follows them under one name. Assumes `Logic`.
use Rattle.arraydeque_ring.{
  proofs.{
    loans.{
      Made.{loan_val, loan_made, slice_lent},
      Names.{Pair, both_lent},
      Placed.{apart_cases, length-as_many},
      Runs.{Values, values_out},
    },
    memory.{
      Called.{after_block, first_fact},
      Kit.{◌≤◌, nothing, refl, [], ◌∷◌, ◌+◌, ◌*◌, arith, length, inst_fn, ‵, ◌$◌, ◌∵◌, !, qed, by},
      Kit.{move, use2, join, frame, fsplit, fjoin, suffices, done, whole, sub, look_in, agg},
      Kit.{of_opd, bin, load, stop, fld, no_more, and_then, first, blocks, returns, alloc_all},
      Kit.{pass_all, free_all, look_at, get, through, sets, sets_last, mem, says_two, El, R, args},
      Kit.{el_x, common_steps, heard, both_by, named_lft, slice_val},
      Lent.slots_lend,
      Methods.{method, spent},
      Regions.{Sr, near, run_fits, slots_open, scaled, item_size},
    },
    places.Filled.length_filled,
  },
  specs.{Loans.LoanState, SlotsLends.{two_lists, two_written}},
}
use Rattle.arraydeque_ring.specs.contracts.slots.loan.Loan as loan
use Rattle.arraydeque_ring.specs.contracts.slots.Slots.lend_two as f
use Rattle.arraydeque_ring.proofs.slots.Slots.lend_two.Statement as stated
use Rattle.arraydeque_ring.proofs.slots.Slots.lend_two.Code as code

pub lend_two_spec : {M : Type 1} → stated.statement M
unfolding both_by
lend_two_spec 𝓤 𝓛 𝓜 𝓡 wired X L =
    let E : El = record { row = X; laws = L } in let here = inst_fn (args E) code.function in
    method 1 4 (Sr E) 𝓛 (spent 1 𝓛 _) 𝓜 𝓡 _ _ (f.clauses X 𝓛 𝓜.mem 𝓡.returns) _ _
    (code.unfolded 𝓤 𝓛.H 𝓜 𝓡 wired (X, tt)) (λ κs qs bounds arg _ typed post ends.
    let r = arg.0.now in let s = item_size E in
    let a = arg.1.0 in let la = arg.1.1.0 in let b = arg.1.1.1.0 in let lb = arg.1.1.1.1.0 in
    let la_ok = typed.1.0.1 in let lb_ok = typed.1.1.1.0.1 in
    first_fact ! (λ _. first_fact ! (λ one. first_fact ! (λ two. heard ! _ (λ apart.
    let xs = one.1.0 in let ys = two.1.0 in
    let long = length_filled r.places a la one in let long' = length_filled r.places b lb two in
    alloc_all ! (λ l. pass_all ! refl ((tt, tt), typed) $
    slots_open E ! tt r (λ g p o n ok.
    let far = near E ok a (omega arith) in let far' = near E ok b (omega arith) in
    first ! $ blocks ! $
    sets ! (of_opd ! (load ! (through ! refl (fld ! refl (stop !))) (look_in ! 2 (sub ! 0 refl (whole !)))))
    refl (tt, tt) $
    sets ! (of_opd ! (get ! refl)) refl (tt, tt) $
    sets ! (scaled ! (get ! refl) far) refl (tt, record { fits = far }) $
    sets ! (bin ! (get ! refl) (get ! refl) tt) refl (tt, tt) $
    sets ! (agg ! (and_then ! (get ! refl) (and_then ! (get ! refl) (no_more !)))) refl
    (tt, (tt, (la_ok, tt))) $
    sets ! (of_opd ! (load ! (through ! refl (fld ! refl (stop !))) (look_in ! 2 (sub ! 0 refl (whole !)))))
    refl (tt, tt) $
    sets ! (of_opd ! (get ! refl)) refl (tt, tt) $
    sets ! (scaled ! (get ! refl) far') refl (tt, record { fits = far' }) $
    sets ! (bin ! (get ! refl) (get ! refl) tt) refl (tt, tt) $
    sets ! (agg ! (and_then ! (get ! refl) (and_then ! (get ! refl) (no_more !)))) refl
    (tt, (tt, (lb_ok, tt))) $
    sets ! (agg ! (no_more !)) refl (tt, tt) $
    sets ! (agg ! (and_then ! (get ! refl) (no_more !))) refl (tt, (tt, tt)) $
    sets_last ! (agg ! (and_then ! (get ! refl) (and_then ! (get ! refl) (and_then ! (get ! refl) (no_more !))))) refl
    (tt, ((tt, (la_ok, tt)), ((tt, (lb_ok, tt)), ((tt, tt), tt)))) $
    after_block ! 𝓡 here l 1 post $ sets ! (of_opd ! (get ! refl)) refl
    (tt, ((tt, (la_ok, tt)), ((tt, (lb_ok, tt)), ((tt, tt), tt)))) $
    let pa = a * s + o in let pb = b * s + o in let Both = mem (two_lists (R E)) in
    let Lent = Pair (Values E la) (Values E lb) Both.coded p pa p pb in
    values_out E p o ! r.places a la b lb one two apart long long' (λ Rest back. fjoin ! $
    slots_lend E ! tt ok Lent (λ w. two_written (R E) arg.0 a b xs ys w.0 w.1) (xs, ys) 0
    (λ w. grind (arith, common_steps, length-as_many xs w.0, length-as_many ys w.1))
    (λ w. qed 𝓛 (‵ (Lent.own_at w p 0) ∷ ‵ Rest ∷ []) ∵ fsplit ! $ by ! (back w.0 w.1)) (λ ν.
    both_lent (Values E la) (Values E lb) Both.coded p pa p pb ! tt xs ys (λ γs.
    let few : la + lb ≤ length r.places = grind (arith, apart_cases a la b lb apart) in
    let room = run_fits E ok in let α = named_lft 2 0 tt κs in
    slice_lent α (R E) 𝓛 ! ys long' (room lb (omega arith)) $ move ! (1 ∷ 2 ∷ []) $
    slice_lent α (R E) 𝓛 ! xs long (room la (omega arith)) $
    let v = loan_val (slice_val (p, pa) la) (slice_val (p, pb) lb) in let seen : LoanState (el_x E) = record {
      first = record { ref_ptr = (p, pa); ghost_name = γs.0; now = xs };
      second = record { ref_ptr = (p, pb); ghost_name = γs.1; now = ys };
      name = ν;
    } in
    use2 𝓛 (‵ ((loan.the_row α (R E)).own_val seen (v ∷ [])))
    (loan_made α (R E) 𝓛 seen (slice_val (p, pa) la) (slice_val (p, pb) lb) (omega (arith, (room (la + lb) few).0))) $
    -- [the loan; the token; what the loan's name follows; what the region follows; the other token]
    returns ! (look_at ! 0 refl) $ free_all ! refl $
    suffices ! _ (ends v seen tt) $ nothing ! $ frame ! $ frame ! $ move ! (0 ∷ 3 ∷ 2 ∷ []) $ join ! $ frame ! $
    fjoin ! $ says_two ! (one.1.1, two.1.1) $ done !))))))))))
