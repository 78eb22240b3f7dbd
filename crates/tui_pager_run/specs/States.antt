-- The pager of an input, from its start to its last key.
use Rattle.std.specs.Prelude.{List, [], ◌∷◌}
use Rattle.tui_pager_lib.specs.Laws.{Call, after_call, after_calls, initial_pager}
use Rattle.tui_pager_lib.specs.Pager.{PagerData}
use Rattle.tui_pager_lib.specs.declared.state.PagerState.{PagerState}
use Rattle.tui_pager_run.specs.Input.{InputData}

-- the pager at the start
abbrev pub first_of : InputData → PagerData
first_of input = initial_pager input.entries input.size.0 input.size.1

-- the pager after all keys
abbrev pub last_of : InputData → PagerData
last_of input = after_calls (first_of input) input.calls

-- its states after each key, in order
unfoldable pub states_after : PagerData → List Call → List PagerState
states_after p [] = []
states_after p (call ∷ calls) = (after_call p call).state ∷ states_after (after_call p call) calls

-- the state at the start, and those after each key
abbrev pub states_of : PagerData → List Call → List PagerState
states_of p calls = p.state ∷ states_after p calls
