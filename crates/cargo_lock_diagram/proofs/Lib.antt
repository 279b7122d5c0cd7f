pub mod ReachedNodes
pub mod Arrowing
pub mod Escaping
pub mod Quoting
pub mod DiagramLines
pub mod PictureRead
