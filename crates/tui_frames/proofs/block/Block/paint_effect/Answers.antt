use Rattle.std.proofs.Common.{[], ◌∷◌}
use Rattle.tui_cells.specs.Cell.{set_style}
use Rattle.tui_text.proofs.Elements.{on_ok}
use Rattle.tui_frames.specs.Block.{block_data}
use Rattle.tui_frames.specs.Effect.{effect_shadow}
use Rattle.tui_frames.proofs.Effects.{effect_kept, effect_shown, frame_kept}
use Rattle.tui_frames.proofs.block.Block.paint_effect.Goals as goal

pub returns-clause-ok : goal.returns-clause-ok
returns-clause-ok g c =
    on_ok c.apply.result
    (effect_shown (g.E.CellEffect.postcondition c.args.effect.now) (block_data c.args.self.now) c.args.clip c.intersection-shadow_area.result
    c.effect_shadow-shadow.result c.args.buf.now _ _ _ c.effect_shadow-shadow.ensures (rw (c.area.ensures, c.offset.ensures.is) at c.intersection-shadow_area.ensures)
    c.in_ok-paint_frame.ensures.ok c.set_style_outside.ensures c.apply.ensures.kept)
    c.apply.ensures.ok

pub returns-clause-kept : goal.returns-clause-kept
returns-clause-kept g c =
    effect_kept (block_data c.args.self.now) c.args.clip c.intersection-shadow_area.result c.effect_shadow-shadow.result
    (set_style c.effect_shadow-shadow.result.style ∷ [])
    c.args.buf.now _ _ _ c.effect_shadow-shadow.ensures (rw (c.area.ensures, c.offset.ensures.is) at c.intersection-shadow_area.ensures)
    c.in_ok-paint_frame.ensures.kept c.set_style_outside.ensures c.apply.ensures.kept

pub returns-in_err-paint_frame-clause-kept : goal.returns-in_err-paint_frame-clause-kept
returns-in_err-paint_frame-clause-kept g c = frame_kept (effect_shadow (block_data c.args.self.now)) c.args.clip _ _ c.paint_frame.ensures.kept
