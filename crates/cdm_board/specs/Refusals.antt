-- Why a call of a board is refused.
use Rattle.std.specs.Prelude.{ℕ, ◌≤◌, ◌<◌, ◌≡◌}
use Rattle.cdm_board.specs.declared.fault.BoardError.{BoardError}
use Rattle.cdm_board.specs.declared.fault.BoardError.TheVariants.{BatchSize, HistoryFull, Memory, DeskCount}
use Rattle.cdm_board.specs.History.{IsDesk}

-- a post of a batch of n updates, where the history has m entries
abbrev pub IsPostRefusal : ℕ → ℕ → BoardError → Type 0
IsPostRefusal n m BatchSize = 256 < n
IsPostRefusal n m (HistoryFull k) = (n ≤ 256) × (m ≡ 4096) × (k ≡ 4096)
IsPostRefusal n m Memory = (n ≤ 256) × (m < 4096)
IsPostRefusal n m DeskCount = ⊥

-- a look, where the history has m entries
abbrev pub IsLookRefusal : ℕ → BoardError → Type 0
IsLookRefusal m BatchSize = ⊥
IsLookRefusal m (HistoryFull k) = (m ≡ 4096) × (k ≡ 4096)
IsLookRefusal m Memory = m < 4096
IsLookRefusal m DeskCount = ⊥

-- a call with n updates through the lock, under which no clause knows the history's length
abbrev pub IsDeskRefusal : ℕ → BoardError → Type 0
IsDeskRefusal n BatchSize = 256 < n
IsDeskRefusal n (HistoryFull k) = (n ≤ 256) × (k ≡ 4096)
IsDeskRefusal n Memory = n ≤ 256
IsDeskRefusal n DeskCount = ⊥

-- the opening of a board with n desks
abbrev pub IsOpenRefusal : ℕ → BoardError → Type 0
IsOpenRefusal n BatchSize = ⊥
IsOpenRefusal n (HistoryFull k) = ⊥
IsOpenRefusal n Memory = IsDesk n
IsOpenRefusal n DeskCount = ¬ IsDesk n
