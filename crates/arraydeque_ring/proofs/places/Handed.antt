-- A run of values that is handed over to the first places of another region,
-- in two parts where it goes round the region's end.
use Rattle.std.proofs.{
  Common.{◌≡◌, ℕ, ◌+◌, ◌-◌, ◌<◌, ◌≤◌, min, List, ◌++◌, map, length, take, drop, replicate, Option},
  Common.{Some, None, sym, ap, ◌∙◌, arith, rules},
  lemmas.{
    Grind.common_steps,
    List.{places, take-replicate, length-replicate, same_lists, take_at, drop_at, take-map},
    List.drop-map,
  },
}
use Rattle.arraydeque_ring.{
  proofs.places.{
    Emptied.length-run_emptied,
    Filled.{empty_in_run, empty_run_of},
    Rotated.{MayStartAt, MayStartAt-place_of, place_of_cases, length-rotated, get_or-rotated},
  },
  specs.{Ring.{place_of, rotated}, Runs.{IsEmptyRun, run_emptied, IsFilledRun}},
}

-- the len values from the index `at` on can be handed over in two parts,
-- the first of them as far as the region's end, and what that comes to
pub record Handed {X : Type 0} (t at len place first : ℕ) (ps : List (Option X)) : Type 0 where
  pub here : IsFilledRun ps place first
  pub rest : IsFilledRun (run_emptied place first ps) 0 (len - first)
  pub first_length : length (take first (drop place ps)) ≡ first
  pub places : rotated t (run_emptied 0 (len - first) (run_emptied place first ps)) ≡ run_emptied at len (rotated t ps)
  pub all : take first (drop place ps) ++ take (len - first)
      (run_emptied place first ps) ≡ take len (drop at (rotated t ps))

pub handed : {X : Type 0} (t at len n place first : ℕ) (ps : List (Option X)) → n ≡ length ps → t ≤ length ps - 1
    → 0 < len → IsFilledRun (rotated t ps) at len → place ≡ place_of t at n → first ≡ min len (n - place)
    → Handed t at len place first ps
handed t at len n place first ps long in_region some run is cut =
    let ts = rotated t ps in
    let es = run_emptied place first ps in
    let r = len - first in
    let rs = run_emptied 0 r es in
    let firsts = take first (drop place ps) in
    let others = take r es in
    let zs = run.1.0 in
    let wide : length ts ≡ n = length-rotated t ps ∙ sym long in
    let fits : at + len ≤ n = omega arith in
    let lies : MayStartAt t at n place = rw is (MayStartAt-place_of t at n (omega arith)) in
    let before_end : place < n = rw is (omega arith) in
    let same : length es ≡ n = length-run_emptied place first ps (omega arith) ∙ sym long in
    let same_rs : length rs ≡ n = length-run_emptied 0 r es (omega arith) ∙ same in
    let many : length firsts ≡ first = search (rules, places) in
    let all : length (firsts ++ others) ≡ len = search (rules, places) in
    let joined : firsts ++ others ≡ take len (drop at ts) =
    same_lists _ _ (search (rules, places)) (λ j d lt.
    let on = get_or-rotated t (at + j) n ps d (sym long) (omega arith) (omega arith) in
    grind (arith, places)) in
    let here : firsts ≡ map Some (take first zs) =
    sym (take_at _ others _ many) ∙ ap (take first) (joined ∙ run.1.1) ∙ take-map Some first zs in
    let there : others ≡ map Some (drop first zs) =
    sym (drop_at firsts _ _ many) ∙ ap (drop first) (joined ∙ run.1.1) ∙ drop-map Some first zs in
    record {
      here = (omega arith, (_, here));
      rest = (omega arith, (_, there));
      first_length = many;
      places = same_lists _ _ (search (rules, places)) (λ j d lt.
          let within : j < n = omega (arith, length-rotated t rs) in
          let read = get_or-rotated t j n rs d same_rs (omega arith) within in
          let was = get_or-rotated t j n ps d (sym long) (omega arith) within in
          grind (arith, places, read, was, place_of_cases t j n (omega arith), lies));
      all = joined;
    }

-- where the first len places of a region are empty, both parts go there, one behind the other
module _ {X : Type 0} {len first : ℕ} (qs : List (Option X)) (le : first ≤ len) (empty : IsEmptyRun qs 0 len) where
  pub first_empty : IsEmptyRun qs 0 first
  first_empty = empty_run_of qs 0 first (omega arith)
      (λ x from to. grind (arith, empty_in_run qs 0 len x empty))

  module _ (firsts others : List (Option X)) (many : length firsts ≡ first) where
    abbrev put : List (Option X)
    put = firsts ++ drop (0 + first) qs

    pub second_empty : IsEmptyRun put first (len - first)
    second_empty =
        empty_run_of put first (len - first) (grind (arith, common_steps))
        (λ x from to. grind (arith, common_steps, empty_in_run qs 0 len x empty))

    pub both_put : take first put ++ (others ++ drop (first + (len - first)) put) ≡ (firsts ++ others) ++ drop len qs
    both_put = same_lists _ _ (search (rules, places)) (λ j d lt. grind (arith, places))

-- in a new region the first places are empty
pub all_empty : {X : Type 0} (len n : ℕ) → len ≤ n → IsEmptyRun {X = X} (replicate n None) 0 len
all_empty {X = X} len n le = (omega (arith, length-replicate {A = Option X} n None), take-replicate len n None le)
