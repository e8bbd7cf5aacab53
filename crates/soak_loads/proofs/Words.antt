-- The words of a generator, one after the other.
use Rattle.std.proofs.Common.{◌≡◌, ℕ, zero, suc, ◌+◌, refl, sym, ◌∙◌, ap, add-one}
use Rattle.rand_pcg.specs.Lcg.{Lcg, next, next_state, advance, state_after}

-- a step after n steps is one step more
next_after : (w m increment n state : ℕ) → next_state w m increment (state_after w m increment n state) ≡ state_after w m increment (suc n) state
unfolding state_after
next_after w m increment zero state = refl
next_after w m increment (suc n) state = next_after w m increment n (next_state w m increment state)

pub one_step_more : (w m n : ℕ) (g : Lcg) → next w m (advance w m n g) ≡ advance w m (n + 1) g
one_step_more w m n g =
    ap (λ (s : ℕ). record g { state = s }) (next_after w m g.increment n g.state ∙ ap (λ (k : ℕ). state_after w m g.increment k g.state) (sym (add-one n)))

pub no_steps : (w m : ℕ) (g : Lcg) → g ≡ advance w m 0 g
unfolding state_after
no_steps w m g = refl
