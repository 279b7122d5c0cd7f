pub mod Reach
pub mod Scene
pub mod Arrows
pub mod Labels
pub mod Labelling
pub mod Diagram
pub mod DiagramLaws
pub mod Pictures
