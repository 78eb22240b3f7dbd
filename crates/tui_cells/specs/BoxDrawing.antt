-- The border symbols and their arms, by code point.
use Rattle.std.specs.Prelude.{ℕ, List, [], ◌∷◌, Option, None, Some, map, nat_eq, if◌then◌else◌}
use Rattle.std.specs.Char.{encode_utf8}
use Rattle.std.specs.Cmp.Lexicographic.{pointwise}
use Rattle.std.specs.Option.{option_or}
use Rattle.tui_cells.specs.declared.arms.Arm.{Arm}
use Rattle.tui_cells.specs.declared.arms.Arm.TheVariants.{Empty, Light, Heavy, Double}
use Rattle.tui_cells.specs.declared.arms.Arms.{Arms}
use Rattle.tui_cells.specs.Arms.{same_arms}

-- a code point, and its arms up, right, down and left
abbrev at : ℕ → Arm → Arm → Arm → Arm → ℕ × Arms
at code up right down left = (code, record { up = up; right = right; down = down; left = left })

-- plain symbols
abbrev pub plain_symbols : List (ℕ × Arms)
plain_symbols =
    at 0x2500 Empty Light Empty Light ∷ at 0x2501 Empty Heavy Empty Heavy ∷ at 0x2502 Light Empty Light Empty ∷ at 0x2503 Heavy Empty Heavy Empty ∷
    at 0x250C Empty Light Light Empty ∷ at 0x250D Empty Heavy Light Empty ∷ at 0x250E Empty Light Heavy Empty ∷ at 0x250F Empty Heavy Heavy Empty ∷
    at 0x2510 Empty Empty Light Light ∷ at 0x2511 Empty Empty Light Heavy ∷ at 0x2512 Empty Empty Heavy Light ∷ at 0x2513 Empty Empty Heavy Heavy ∷
    at 0x2514 Light Light Empty Empty ∷ at 0x2515 Light Heavy Empty Empty ∷ at 0x2516 Heavy Light Empty Empty ∷ at 0x2517 Heavy Heavy Empty Empty ∷
    at 0x2518 Light Empty Empty Light ∷ at 0x2519 Light Empty Empty Heavy ∷ at 0x251A Heavy Empty Empty Light ∷ at 0x251B Heavy Empty Empty Heavy ∷
    at 0x251C Light Light Light Empty ∷ at 0x251D Light Heavy Light Empty ∷ at 0x251E Heavy Light Light Empty ∷ at 0x251F Light Light Heavy Empty ∷
    at 0x2520 Heavy Light Heavy Empty ∷ at 0x2521 Heavy Heavy Light Empty ∷ at 0x2522 Light Heavy Heavy Empty ∷ at 0x2523 Heavy Heavy Heavy Empty ∷
    at 0x2524 Light Empty Light Light ∷ at 0x2525 Light Empty Light Heavy ∷ at 0x2526 Heavy Empty Light Light ∷ at 0x2527 Light Empty Heavy Light ∷
    at 0x2528 Heavy Empty Heavy Light ∷ at 0x2529 Heavy Empty Light Heavy ∷ at 0x252A Light Empty Heavy Heavy ∷ at 0x252B Heavy Empty Heavy Heavy ∷
    at 0x252C Empty Light Light Light ∷ at 0x252D Empty Light Light Heavy ∷ at 0x252E Empty Heavy Light Light ∷ at 0x252F Empty Heavy Light Heavy ∷
    at 0x2530 Empty Light Heavy Light ∷ at 0x2531 Empty Light Heavy Heavy ∷ at 0x2532 Empty Heavy Heavy Light ∷ at 0x2533 Empty Heavy Heavy Heavy ∷
    at 0x2534 Light Light Empty Light ∷ at 0x2535 Light Light Empty Heavy ∷ at 0x2536 Light Heavy Empty Light ∷ at 0x2537 Light Heavy Empty Heavy ∷
    at 0x2538 Heavy Light Empty Light ∷ at 0x2539 Heavy Light Empty Heavy ∷ at 0x253A Heavy Heavy Empty Light ∷ at 0x253B Heavy Heavy Empty Heavy ∷
    at 0x253C Light Light Light Light ∷ at 0x253D Light Light Light Heavy ∷ at 0x253E Light Heavy Light Light ∷ at 0x253F Light Heavy Light Heavy ∷
    at 0x2540 Heavy Light Light Light ∷ at 0x2541 Light Light Heavy Light ∷ at 0x2542 Heavy Light Heavy Light ∷ at 0x2543 Heavy Light Light Heavy ∷
    at 0x2544 Heavy Heavy Light Light ∷ at 0x2545 Light Light Heavy Heavy ∷ at 0x2546 Light Heavy Heavy Light ∷ at 0x2547 Heavy Heavy Light Heavy ∷
    at 0x2548 Light Heavy Heavy Heavy ∷ at 0x2549 Heavy Light Heavy Heavy ∷ at 0x254A Heavy Heavy Heavy Light ∷ at 0x254B Heavy Heavy Heavy Heavy ∷
    at 0x2550 Empty Double Empty Double ∷ at 0x2551 Double Empty Double Empty ∷ at 0x2552 Empty Double Light Empty ∷ at 0x2553 Empty Light Double Empty ∷
    at 0x2554 Empty Double Double Empty ∷ at 0x2555 Empty Empty Light Double ∷ at 0x2556 Empty Empty Double Light ∷ at 0x2557 Empty Empty Double Double ∷
    at 0x2558 Light Double Empty Empty ∷ at 0x2559 Double Light Empty Empty ∷ at 0x255A Double Double Empty Empty ∷ at 0x255B Light Empty Empty Double ∷
    at 0x255C Double Empty Empty Light ∷ at 0x255D Double Empty Empty Double ∷ at 0x255E Light Double Light Empty ∷ at 0x255F Double Light Double Empty ∷
    at 0x2560 Double Double Double Empty ∷ at 0x2561 Light Empty Light Double ∷ at 0x2562 Double Empty Double Light ∷ at 0x2563 Double Empty Double Double ∷
    at 0x2564 Empty Double Light Double ∷ at 0x2565 Empty Light Double Light ∷ at 0x2566 Empty Double Double Double ∷ at 0x2567 Light Double Empty Double ∷
    at 0x2568 Double Light Empty Light ∷ at 0x2569 Double Double Empty Double ∷ at 0x256A Light Double Light Double ∷ at 0x256B Double Light Double Light ∷
    at 0x256C Double Double Double Double ∷ at 0x2574 Empty Empty Empty Light ∷ at 0x2575 Light Empty Empty Empty ∷ at 0x2576 Empty Light Empty Empty ∷
    at 0x2577 Empty Empty Light Empty ∷ at 0x2578 Empty Empty Empty Heavy ∷ at 0x2579 Heavy Empty Empty Empty ∷ at 0x257A Empty Heavy Empty Empty ∷
    at 0x257B Empty Empty Heavy Empty ∷ at 0x257C Empty Heavy Empty Light ∷ at 0x257D Light Empty Heavy Empty ∷ at 0x257E Empty Light Empty Heavy ∷
    at 0x257F Heavy Empty Light Empty ∷
    []

-- dashed and rounded symbols, with the arms of the plain ones that they count as
abbrev pub other_symbols : List (ℕ × Arms)
other_symbols =
    at 0x2504 Empty Light Empty Light ∷ at 0x2508 Empty Light Empty Light ∷ at 0x254C Empty Light Empty Light ∷ at 0x2505 Empty Heavy Empty Heavy ∷
    at 0x2509 Empty Heavy Empty Heavy ∷ at 0x254D Empty Heavy Empty Heavy ∷ at 0x2506 Light Empty Light Empty ∷ at 0x250A Light Empty Light Empty ∷
    at 0x254E Light Empty Light Empty ∷ at 0x2507 Heavy Empty Heavy Empty ∷ at 0x250B Heavy Empty Heavy Empty ∷ at 0x254F Heavy Empty Heavy Empty ∷
    at 0x256D Empty Light Light Empty ∷ at 0x256E Empty Empty Light Light ∷ at 0x256F Light Empty Empty Light ∷ at 0x2570 Light Light Empty Empty ∷
    []

-- a symbol, which is a UTF-8 string, and its arms
abbrev pub Entry : Type 0
Entry = List ℕ × Arms

-- a code point and its arms as an entry of a table
abbrev pub as_entry : ℕ × Arms → Entry
as_entry r = (encode_utf8 r.0, r.1)

-- the plain symbols as a table
unfoldable pub plain_table : List Entry
plain_table = map as_entry plain_symbols

-- the dashed and rounded symbols as a table
unfoldable pub other_table : List Entry
other_table = map as_entry other_symbols

-- the arms of a symbol, found in a table
unfoldable pub arms_in : List Entry → List ℕ → Option Arms
arms_in [] symbol = None
arms_in (e ∷ es) symbol = if pointwise nat_eq e.0 symbol then Some e.1 else arms_in es symbol

-- the symbol with these arms, found in a table
unfoldable pub symbol_in : List Entry → Arms → Option (List ℕ)
symbol_in [] arms = None
symbol_in (e ∷ es) arms = if same_arms e.1 arms then Some e.0 else symbol_in es arms

-- the arms of a plain symbol
abbrev pub plain_arms : List ℕ → Option Arms
plain_arms symbol = arms_in plain_table symbol

-- the arms of a plain, dashed or rounded symbol
abbrev pub known_arms : List ℕ → Option Arms
known_arms symbol = option_or (plain_arms symbol) (arms_in other_table symbol)

-- the plain symbol with these arms
abbrev pub plain_with : Arms → Option (List ℕ)
plain_with arms = symbol_in plain_table arms
