-- Calls one after another.
use Rattle.std.proofs.Common.{◌≡◌, ℕ, ◌+◌, zero, suc, List, [], ◌∷◌, ◌++◌, replicate, refl, sym, ap, ◌∙◌, arith}
use Rattle.tui_pager_lib.specs.Laws.{Call, after_call, after_calls}
use Rattle.tui_pager_lib.specs.Pager.{PagerData}

-- calls after other calls
pub after_more : (p : PagerData) (calls more : List Call) → after_calls p (calls ++ more) ≡ after_calls (after_calls p calls) more
after_more p [] more = refl
after_more p (c ∷ cs) more = after_more (after_call p c) cs more

-- the same call once more
pub once_more : (p : PagerData) (call : Call) (n : ℕ) → after_call (after_calls p (replicate n call)) call ≡ after_calls p (replicate (n + 1) call)
once_more p call zero = refl
once_more p call (suc n) =
    let later : suc n + 1 ≡ suc (n + 1) = omega arith in
    once_more (after_call p call) call n ∙ ap (λ (k : ℕ). after_calls p (replicate k call)) (sym later)
