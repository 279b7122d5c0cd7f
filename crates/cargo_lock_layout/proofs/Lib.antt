pub mod SeenLines
