-- A runner between two calls.
use Rattle.std.specs.Prelude.{◌≡◌, ℕ}

-- deadline i and left i are those of the latest job of task i; left 0: it is finished, or there is none
pub record State : Type 0 where
  pub clock : ℕ
  pub deadline : ℕ → ℕ
  pub left : ℕ → ℕ

-- a runner that was just started
pub record Fresh (s : State) : Type 0 where
  pub clock : s.clock ≡ 0
  pub deadline : (i : ℕ) → s.deadline i ≡ 0
  pub left : (i : ℕ) → s.left i ≡ 0

-- the job of task i is as it was
pub record Stays (s s' : State) (i : ℕ) : Type 0 where
  pub deadline : s'.deadline i ≡ s.deadline i
  pub left : s'.left i ≡ s.left i

-- nothing was altered
pub record Unchanged (s s' : State) : Type 0 where
  pub clock : s'.clock ≡ s.clock
  pub jobs : (i : ℕ) → Stays s s' i
